-- The list of a text's characters, in the format of HarfBuzz's `hb_buffer_serialize_unicode`.
use Rattle.std.specs.Prelude.{ℕ, zero, suc, ◌==◌, ◌*◌, ◌/◌, ◌%◌, ◌^◌, ◌+◌, List, [], ◌∷◌, ◌++◌, length, nat_lt, codes}
use Rattle.std.specs.Prelude.{if◌then◌else◌}
use Rattle.std.specs.Fmt.{decimal}
use Rattle.rb_glyph.specs.declared.info.hb_glyph_info_t.{hb_glyph_info_t}

-- ---- hexadecimal digits

-- a digit, with a capital letter from 10 on
abbrev pub hex_digit : ℕ → ℕ
hex_digit d = if nat_lt d 10 then 48 + d else 55 + d

-- the last digits of a number, so many
abbrev pub last_digits : ℕ → ℕ → List ℕ
last_digits zero n = []
last_digits (suc k) n = hex_digit ((n / 2 ^ (4 * k)) % 16) ∷ last_digits k n

-- how many are written of a number of 32 bits: at least four
abbrev pub hex_len : ℕ → ℕ
hex_len n =
    if nat_lt n 65536 then 4 else if nat_lt n 1048576 then 5 else if nat_lt n 16777216 then 6
    else if nat_lt n 268435456 then 7 else 8

abbrev pub hexadecimal : ℕ → List ℕ
hexadecimal n = last_digits (hex_len n) n

-- ---- the list

-- `U+` and the number
abbrev pub code_point : ℕ → List ℕ
code_point n = codes "U+" ++ hexadecimal n

-- a character and its cluster
abbrev pub character : hb_glyph_info_t → List ℕ
character info = code_point info.glyph_id ++ (61 ∷ decimal info.cluster)

-- what stands before the character at a place: a bar, but before the first nothing
abbrev pub bar_before : ℕ → List ℕ
bar_before zero = []
bar_before (suc i) = 124 ∷ []

-- characters, of which this many come before
abbrev pub characters_from : ℕ → List hb_glyph_info_t → List ℕ
characters_from i [] = []
characters_from i (info ∷ infos) = (bar_before i ++ character info) ++ characters_from (suc i) infos

-- between angle brackets; nothing where there is no character
abbrev pub characters_list : List hb_glyph_info_t → List ℕ
characters_list infos = if length infos == 0 then [] else 60 ∷ characters_from 0 infos ++ 62 ∷ []
