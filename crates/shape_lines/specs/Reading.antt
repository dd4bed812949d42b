-- What is seen of the bytes of a text.
use Rattle.std.specs.Prelude.{ℕ, ◌-◌, ◌≡◌, ◌==◌, ◌||◌, nat_lt, ⊤, Bool, true, false, Option, Some, None, List, [], ◌∷◌, ◌++◌, if◌then◌else◌}
use Rattle.std.specs.Io.BufRead.{take_through, drop_through}
use Rattle.shape_options.specs.declared.options.TextSource.{TextSource}
use Rattle.shape_options.specs.declared.options.TextSource.TheVariants.{Given, CodePoints, Input, File}
use Rattle.shape_lines.specs.declared.reading.Reading.{Reading}
use Rattle.shape_lines.specs.declared.reading.Reading.TheVariants.{Whole, Strings}

-- the bytes that a string has room for, where C reads 8 KB at a time and ends it with a byte 0
abbrev pub room : ℕ
room = 8191

-- Bytes as strings hold them that `fgets` reads. A string ends behind a line feed, or without room; from a byte 0 on, nothing of it is
-- seen. So much room is left in the first, of which a byte 0 was read or not.
abbrev pub held : ℕ → Bool → List ℕ → List ℕ
held left hides [] = []
held left hides (b ∷ bytes) =
    let hidden = hides || (b == 0) in
    let ends = (b == 10) || nat_lt left 2 in
    let more = held (if ends then room else left - 1) (if ends then false else hidden) bytes in
    if hidden then more else b ∷ more

-- what is seen of bytes
abbrev pub seen : Reading → List ℕ → List ℕ
seen Whole bytes = bytes
seen Strings bytes = held room false bytes

-- Where the bytes of a text are known: those up to the first line feed, and that, are read, or there are none. Those that are seen are added
-- to others.
abbrev pub AddsRun : Reading → Bool → Option (List ℕ) → Option (List ℕ) → List ℕ → List ℕ → Type 0
AddsRun reading found None after old new = ⊤
AddsRun reading found (Some text) None old new = ⊥
AddsRun reading true (Some text) (Some rest) old new = (rest ≡ drop_through 10 text) × (new ≡ old ++ seen reading (take_through 10 text))
AddsRun reading false (Some text) (Some rest) old new = (text ≡ []) × (rest ≡ []) × (new ≡ old)

-- words of the command line are seen whole; a file and standard input are read in strings
abbrev pub reading_of : TextSource → Reading
reading_of (Given text) = Whole
reading_of (CodePoints text) = Whole
reading_of Input = Strings
reading_of (File file) = Strings
