use Rattle.std.specs.Prelude.{ℕ, List, [], ◌∷◌, map}
use Rattle.std.specs.Char.{to_ascii_uppercase}
use Rattle.rb_common.specs.Ascii.{space}
use Rattle.std.specs.Int.{from_be_bytes, to_be_bytes, w32}

-- the number of four bytes, the first most significant
abbrev pub tag_of : List ℕ → ℕ
tag_of bytes = from_be_bytes w32 bytes

-- the first four bytes, with spaces after them where there are fewer; no bytes give the null tag
abbrev pub lossy_tag_of : List ℕ → ℕ
lossy_tag_of [] = 0
lossy_tag_of (a ∷ []) = tag_of (a ∷ space ∷ space ∷ space ∷ [])
lossy_tag_of (a ∷ b ∷ []) = tag_of (a ∷ b ∷ space ∷ space ∷ [])
lossy_tag_of (a ∷ b ∷ c ∷ []) = tag_of (a ∷ b ∷ c ∷ space ∷ [])
lossy_tag_of (a ∷ b ∷ c ∷ d ∷ more) = tag_of (a ∷ b ∷ c ∷ d ∷ [])

-- the tag whose bytes are those of a tag, ASCII letters made capital
abbrev pub uppercase_tag : ℕ → ℕ
uppercase_tag tag = tag_of (map to_ascii_uppercase (to_be_bytes w32 tag))
