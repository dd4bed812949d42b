-- Coverage tables: the glyphs that a lookup is for, each with an index.
use Rattle.std.specs.Prelude.{ℕ, List, Option, Some, None, ◌+◌, ◌-◌, ◌*◌, if◌then◌else◌, nat_eq, unwrap_or}
use Rattle.std.specs.Prelude.{option_map, option_and_then}
use Rattle.font_tables.specs.Bytes.{number_16}
use Rattle.font_tables.specs.Rows.{first_row, rows_within, is_within}
use Rattle.font_tables.specs.GlyphRanges.{range_first, range_value, range_of}

-- format 1: glyphs of two bytes each, from the byte 4 on
abbrev pub listed_glyph : List ℕ → ℕ → Option ℕ
listed_glyph table row = number_16 table (4 + 2 * row)

-- how many of the declared glyphs lie in the table
abbrev pub listed_count : List ℕ → ℕ
listed_count table = rows_within table 4 2 (unwrap_or (number_16 table 2) 0)

-- the place in the list: that of the first glyph that is not below this one, if it is this one
abbrev pub listed_index : List ℕ → ℕ → Option ℕ
listed_index table glyph =
    option_and_then (λ row. if is_within (listed_glyph table row) glyph then Some row else None)
    (first_row (listed_glyph table) glyph (listed_count table))

-- format 2: a range has the index of its first glyph
abbrev pub ranged_index : List ℕ → ℕ → Option ℕ
ranged_index table glyph =
    option_and_then (λ row. option_and_then (λ first. option_map (λ index. index + (glyph - first)) (range_value table row))
    (range_first table row)) (range_of table glyph)

-- the index of a glyph; `None` where the table does not cover it, or is of another format
unfoldable pub coverage_index : List ℕ → ℕ → Option ℕ
coverage_index table glyph =
    let format = unwrap_or (number_16 table 0) 0 in
    if nat_eq format 1 then listed_index table glyph else if nat_eq format 2 then ranged_index table glyph else None
