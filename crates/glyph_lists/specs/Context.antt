-- The context: the characters that are kept of the text on each side, nearest to the buffer's text first.
use Rattle.std.specs.Prelude.{ℕ, List, take, reverse}
use Rattle.std.specs.Str.{chars}

-- of the text before, the last five characters, the last one first
abbrev pub before_text : List ℕ → List ℕ
before_text text = take 5 (reverse (chars text))

-- of the text after, the first five characters
abbrev pub after_text : List ℕ → List ℕ
after_text text = take 5 (chars text)
