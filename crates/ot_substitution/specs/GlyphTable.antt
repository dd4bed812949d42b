-- Tables that list glyphs.
use Rattle.std.specs.Prelude.{ℕ, ◌+◌, ◌*◌, List, length, nat_le, unwrap_or, if◌then◌else◌}
use Rattle.font_tables.specs.Bytes.{number_16}

-- how many glyphs a table lists: as many as its first number says, and none where they do not all lie in it
abbrev pub listed : List ℕ → ℕ
listed table =
    let count = unwrap_or (number_16 table 0) 0 in
    if nat_le (2 + 2 * count) (length table) then count else 0

-- the glyph of this number in a table that lists glyphs
abbrev pub listed_glyph : List ℕ → ℕ → ℕ
listed_glyph table k = unwrap_or (number_16 table (2 + 2 * k)) 0
