-- The table `VORG`: where glyphs stand on a vertical line.
use Rattle.std.specs.Prelude.{ℕ, ℤ, List, Option, Some, None, Bool, ◌+◌, ◌*◌, ◌&&◌, if◌then◌else◌, nat_le, length, unwrap_or}
use Rattle.std.specs.Prelude.{option_and_then}
use Rattle.font_tables.specs.Bytes.{number_16, signed_16, is_number}
use Rattle.font_tables.specs.Rows.{first_row, rows_within, is_within}

-- a table `VORG` has 8 bytes and the major version 1
abbrev pub is_vorg : List ℕ → Bool
is_vorg vorg = nat_le 8 (length vorg) && is_number (number_16 vorg 0) 1

-- rows of four bytes, from the byte 8 on: a glyph, and the y coordinate of its vertical origin
abbrev pub origin_glyph : List ℕ → ℕ → Option ℕ
origin_glyph vorg row = number_16 vorg (8 + 4 * row)

abbrev pub origin_count : List ℕ → ℕ
origin_count vorg = rows_within vorg 8 4 (unwrap_or (number_16 vorg 6) 0)

-- the row of a glyph: the first that is not below it, if it is that of the glyph
abbrev pub row_of : List ℕ → ℕ → Option ℕ
row_of vorg glyph =
    option_and_then (λ row. if is_within (origin_glyph vorg row) glyph then Some row else None)
    (first_row (origin_glyph vorg) glyph (origin_count vorg))

-- the place of the y coordinate: that of the glyph's row, or that of all glyphs with no row
abbrev pub place_of : Option ℕ → ℕ
place_of None = 4
place_of (Some row) = 10 + 4 * row

-- the y coordinate of a glyph's vertical origin; `None` where the font has no such table
unfoldable pub y_origin : List ℕ → ℕ → Option ℤ
y_origin vorg glyph = if is_vorg vorg then signed_16 vorg (place_of (row_of vorg glyph)) else None
