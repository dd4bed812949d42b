-- Lookup tables: a value of 16 bits for some glyphs.
use Rattle.std.specs.Prelude.{◌≡◌, ◌≢◌, ◌+◌, ◌*◌, ◌-◌, ◌&&◌, ◌||◌, ◌⊎◌, ℕ, Bool, true, false, List, Option, Some, None, IfSome, nat_eq, nat_le, nat_lt, unwrap_or, if◌then◌else◌}
use Rattle.std.specs.Prelude.{option_and_then}
use Rattle.font_tables.specs.Bytes.{is_number, number_16}
use Rattle.font_tables.specs.Rows.{rows_within}
use Rattle.aat_tables.specs.GlyphRows.{AreSorted, Holds, IsNowhere, first_of, last_of}

abbrev pub format_of : List ℕ → ℕ
format_of table = unwrap_or (number_16 table 0) 0

-- format 0: a value for each glyph of the font
abbrev pub listed_value : List ℕ → ℕ → ℕ → Option ℕ
listed_value table glyph_count glyph = if nat_lt glyph glyph_count then number_16 table (2 + 2 * glyph) else None

-- format 8: values of so many glyphs, from a first glyph on
abbrev pub trimmed_value : List ℕ → ℕ → Option ℕ
trimmed_value table glyph =
    option_and_then (λ first. option_and_then (λ count.
    if nat_le first glyph then if nat_lt (glyph - first) count then number_16 table (6 + 2 * (glyph - first)) else None else None)
    (number_16 table 4)) (number_16 table 2)

-- The other formats have rows: their size, at the byte 2, is at least that of the format.
abbrev pub least_size : ℕ → ℕ
least_size format = if nat_eq format 6 then 4 else 6

abbrev pub row_size : List ℕ → ℕ
row_size table = unwrap_or (number_16 table 2) 0

-- how many bytes behind its last glyph a row has its first one: a row of format 6 has one glyph
abbrev pub skip_of : ℕ → ℕ
skip_of format = if nat_eq format 6 then 0 else 2

-- the value that a row gives a glyph which it holds: format 4 has the values of the row's glyphs elsewhere in the table
abbrev pub value_in_row : List ℕ → ℕ → ℕ → Option ℕ
value_in_row table glyph row =
    let format = format_of table in
    let at = 12 + row_size table * row in
    if nat_eq format 6 then number_16 table (at + 2)
    else if nat_eq format 4
    then option_and_then (λ offset. option_and_then (λ first. number_16 table (offset + 2 * (glyph - first)))
    (number_16 table (at + 2))) (number_16 table (at + 4))
    else number_16 table (at + 4)

-- the value is that of a row which holds the glyph
abbrev pub IsInRow : List ℕ → ℕ → ℕ → Type 0
IsInRow table glyph value =
    (row : ℕ) × (Holds table (row_size table) (skip_of (format_of table)) glyph row
    × (value_in_row table glyph row ≡ Some value))

-- whether a row ends the rows, and is none of them: its glyphs are 65535
abbrev pub ends_rows : List ℕ → ℕ → Bool
ends_rows table row =
    is_number (last_of table (row_size table) row) 65535
    && (nat_eq (format_of table) 6 || is_number (first_of table (row_size table) 2 row) 65535)

-- how many of the rows that a table declares lie in it
abbrev pub whole_rows : List ℕ → ℕ
whole_rows table = rows_within table 12 (row_size table) (unwrap_or (number_16 table 4) 0)

-- how many rows a table has: those that lie in it, without a last one that ends them. Rows that are shorter than those of the
-- format are none.
abbrev pub row_count : List ℕ → ℕ
row_count table =
    if nat_lt (row_size table) (least_size (format_of table)) then 0
    else if nat_lt 0 (whole_rows table) && ends_rows table (whole_rows table - 1) then whole_rows table - 1
    else whole_rows table

-- the formats 2, 4 and 6 have rows
abbrev pub has_rows : ℕ → Bool
has_rows format = nat_eq format 2 || (nat_eq format 4 || nat_eq format 6)

-- the value that rows give a glyph is that of a row which holds it; where the rows are sorted there is none only where no row holds
-- the glyph, or one that does is cut short
pub record IsRowValue (table : List ℕ) (glyph : ℕ) (value : Option ℕ) : Type 0 where
  pub some : IfSome value (IsInRow table glyph)
  pub none : AreSorted table (row_size table) (skip_of (format_of table)) (row_count table) → value ≡ None
      → IsNowhere table (row_size table) (skip_of (format_of table)) (row_count table) glyph
      ⊎ ((row : ℕ) × (Holds table (row_size table) (skip_of (format_of table)) glyph row × (value_in_row table glyph row ≡ None)))

-- the value of a glyph in a table of any format; in one of an unknown format there is none
pub record IsValueOf (table : List ℕ) (glyph_count glyph : ℕ) (value : Option ℕ) : Type 0 where
  pub listed : format_of table ≡ 0 → value ≡ listed_value table glyph_count glyph
  pub trimmed : format_of table ≡ 8 → value ≡ trimmed_value table glyph
  pub rows : has_rows (format_of table) ≡ true → IsRowValue table glyph value
  pub others : has_rows (format_of table) ≡ false → format_of table ≢ 0 → format_of table ≢ 8 → value ≡ None
