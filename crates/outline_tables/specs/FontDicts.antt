-- The Font DICT of a glyph (The Compact Font Format Specification, "FDSelect").
use Rattle.std.specs.Prelude.{ℕ, List, Option, None, ◌==◌, ◌+◌, ◌*◌, if◌then◌else◌, option_and_then, unwrap_or}
use Rattle.font_tables.specs.Bytes.{byte_at, number_16}
use Rattle.font_tables.specs.Rows.{first_row}

-- the first glyph behind a range: that of the next range, or how many glyphs there are
abbrev pub range_end : List ℕ → ℕ → Option ℕ
range_end bs row = number_16 bs (6 + 3 * row)

-- the range that holds a glyph: the first that ends behind it
abbrev pub range_with : List ℕ → ℕ → Option ℕ
range_with bs glyph = first_row (range_end bs) (glyph + 1) (unwrap_or (number_16 bs 1) 0)

-- the number of the Font DICT that ranges give a glyph
unfoldable pub ranged_dict : List ℕ → ℕ → Option ℕ
ranged_dict bs glyph = option_and_then (λ row. byte_at bs (5 + 3 * row)) (range_with bs glyph)

-- the number of a glyph's Font DICT: one for each glyph, or one for each range
unfoldable pub font_dict_of : List ℕ → ℕ → Option ℕ
font_dict_of bs glyph =
    option_and_then (λ format. if format == 0 then byte_at bs (1 + glyph)
    else if format == 3 then ranged_dict bs glyph else None)
    (byte_at bs 0)
