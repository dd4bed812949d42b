-- Ranges of glyphs, of six bytes each from the byte 4 on: the first glyph, the last glyph, and a value.
use Rattle.std.specs.Prelude.{ℕ, List, Option, Some, None, ◌+◌, ◌*◌, if◌then◌else◌, unwrap_or, option_and_then}
use Rattle.font_tables.specs.Bytes.{number_16}
use Rattle.font_tables.specs.Rows.{first_row, rows_within, is_within}

abbrev pub range_first : List ℕ → ℕ → Option ℕ
range_first table row = number_16 table (4 + 6 * row)

abbrev pub range_last : List ℕ → ℕ → Option ℕ
range_last table row = number_16 table (6 + 6 * row)

abbrev pub range_value : List ℕ → ℕ → Option ℕ
range_value table row = number_16 table (8 + 6 * row)

-- how many of the declared ranges lie in the table
abbrev pub range_count : List ℕ → ℕ
range_count table = rows_within table 4 6 (unwrap_or (number_16 table 2) 0)

-- the range that holds a glyph: the first that does not end before it, if it does not begin behind it
abbrev pub range_of : List ℕ → ℕ → Option ℕ
range_of table glyph =
    option_and_then (λ row. if is_within (range_first table row) glyph then Some row else None)
    (first_row (range_last table) glyph (range_count table))
