-- The tables `head` and `maxp`.
use Rattle.std.specs.Prelude.{ℕ, List, Bool, ◌&&◌, ◌||◌, if◌then◌else◌, nat_le, length, unwrap_or}
use Rattle.font_tables.specs.Bytes.{number_16, number_32, is_number}

-- a table `head` has 54 bytes, the major version 1 and the magic number
abbrev pub is_head : List ℕ → Bool
is_head head =
    nat_le 54 (length head) && is_number (number_16 head 0) 1 && is_number (number_32 head 12) 0x5F0F3CF5

-- the units of an em: 1000 where the font does not have between 16 and 16384 of them
unfoldable pub units_per_em : List ℕ → ℕ
units_per_em head =
    let units = unwrap_or (number_16 head 18) 0 in
    if is_head head && nat_le 16 units && nat_le units 16384 then units else 1000

-- how the table `loca` has its offsets: 0 as half of them in 16 bits, 1 in 32 bits
unfoldable pub index_to_loc_format : List ℕ → ℕ
index_to_loc_format head = if is_head head then unwrap_or (number_16 head 50) 0 else 0

-- a table `maxp` has 32 bytes and the major version 1, or 6 bytes and the version 0.5
abbrev pub is_maxp : List ℕ → Bool
is_maxp maxp =
    (nat_le 32 (length maxp) && is_number (number_16 maxp 0) 1)
    || (nat_le 6 (length maxp) && is_number (number_32 maxp 0) 0x00005000)

-- how many glyphs a font has
unfoldable pub glyph_count : List ℕ → ℕ
glyph_count maxp = if is_maxp maxp then unwrap_or (number_16 maxp 4) 0 else 0
