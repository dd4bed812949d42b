-- Adjustments of single glyphs and of pairs: subtables of the kinds 1 and 2.
use Rattle.std.specs.Prelude.{ℕ, ℤ, Bool, List, Option, None, ◌+◌, ◌*◌, ◌&&◌, nat_eq, nat_lt}
use Rattle.std.specs.Prelude.{if◌then◌else◌, unwrap_or, option_map, option_and_then}
use Rattle.font_tables.specs.Bytes.{number_16, table_at_16}
use Rattle.std.specs.declared.cmp.Ordering.{Ordering}
use Rattle.font_tables.specs.Bisection.{beside_key, row_with}
use Rattle.font_tables.specs.Rows.{rows_within}
use Rattle.ot_gpos_tables.specs.Values.{across, no_values, record_size, value_record}
use Rattle.ot_gpos_tables.specs.declared.values.ValueRecord.{ValueRecord}
use Rattle.ot_gpos_tables.specs.declared.pairs.PairValues.{PairValues}

-- the number of 16 bits at a place, and 0 outside of the table
abbrev pub number : List ℕ → ℕ → ℕ
number table at = unwrap_or (number_16 table at) 0

-- The record of a glyph with this coverage index: in format 1 the one record, at the byte 6, and in format 2 the one in its
-- row, from the byte 8 on. `None` where the table does not have it.
unfoldable pub single_values : List ℕ → ℕ → Option ValueRecord
single_values table index =
    let format = number table 4 in
    if nat_eq (number table 0) 1 then value_record table format 6
    else if nat_eq (number table 0) 2 && nat_lt index (number table 6)
    then value_record table format (8 + index * record_size format) else None

-- the records of both glyphs at a place, that of the second glyph behind that of the first
unfoldable pub pair_at : List ℕ → ℕ → ℕ → ℕ → Option PairValues
pair_at table format1 format2 at =
    option_and_then (λ first. option_map (λ second. record { first = first; second = second })
    (value_record table format2 (at + record_size format1))) (value_record table format1 at)

-- the records of a pair of which the first glyph has another advance to the right, and nothing else is changed
abbrev pub kerned : ℤ → PairValues
kerned advance = record { first = across advance; second = no_values }

-- how many bytes a row of pairs has, where a glyph of two bytes stands before the records
abbrev pub row_size : ℕ → ℕ → ℕ
row_size format1 format2 = 2 + record_size format1 + record_size format2

-- the second glyph in a row of a set of pairs
abbrev pub second_of : List ℕ → ℕ → ℕ → Option ℕ
second_of set size row = number_16 set (2 + size * row)

-- how many of the declared rows lie in the set
abbrev pub row_count : List ℕ → ℕ → ℕ
row_count set size = rows_within set 2 size (number set 0)

-- where a second glyph lies from a row
abbrev pub beside_second : List ℕ → ℕ → ℕ → ℕ → Option Ordering
beside_second set size second row = beside_key (second_of set size row) second

-- the row of a second glyph
abbrev pub second_row : List ℕ → ℕ → ℕ → Option ℕ
second_row set size second = row_with (beside_second set size second) (row_count set size)

-- the records of the pair with this second glyph in a set of pairs: those behind the glyph in its row
unfoldable pub listed_pair : List ℕ → ℕ → ℕ → ℕ → Option PairValues
listed_pair set format1 format2 second =
    option_and_then (λ row. pair_at set format1 format2 (4 + row_size format1 format2 * row))
    (second_row set (row_size format1 format2) second)

-- whether pairs have the advance of the first glyph to the right (bit 2), and nothing else
abbrev pub is_kerning : List ℕ → Bool
is_kerning table = nat_eq (number table 4) 4 && nat_eq (number table 6) 0

-- the set of the pairs of the first glyph with this coverage index
abbrev pub pair_set : List ℕ → ℕ → Option (List ℕ)
pair_set table index = if nat_lt index (number table 8) then table_at_16 table (10 + 2 * index) else None

-- The records of a pair of classes, class 0 among them: a row for each class of the first glyph, with records for each class
-- of the second. `None` where the table does not have them.
unfoldable pub classed_pair : List ℕ → ℕ → ℕ → Option PairValues
classed_pair table first second =
    let format1 = number table 4 in
    let format2 = number table 6 in
    if nat_lt first (number table 12) && nat_lt second (number table 14)
    then pair_at table format1 format2
    (16 + (first * number table 14 + second) * (record_size format1 + record_size format2)) else None
