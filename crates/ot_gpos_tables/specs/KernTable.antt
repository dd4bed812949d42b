-- The table `kern`: subtables of pairs of glyphs, or of pairs of classes.
use Rattle.std.specs.Prelude.{◌≡◌, ℕ, ℤ, List, Option, None, Some, ◌+◌, ◌-◌, ◌*◌, ◌/◌, ◌&&◌, ◌||◌, nat_le, nat_lt}
use Rattle.std.specs.Prelude.{if◌then◌else◌, unwrap_or, pos, option_and_then, option_map, drop, take, length, Bool, true, false, not, nat_eq}
use Rattle.std.specs.Prelude.{bit_and, zero, suc, min, ◌^◌}
use Rattle.std.specs.Option.{option_map_or}
use Rattle.font_tables.specs.Bytes.{byte_at, number_16, number_32, signed_16, is_number}
use Rattle.ot_gpos_tables.specs.declared.kern_table.KernCoverage.{KernCoverage}
use Rattle.ot_gpos_tables.specs.declared.kern_table.KernSubtable.{KernSubtable}
use Rattle.ot_gpos_tables.specs.declared.kern_table.KernTable.{KernTable}
use Rattle.ot_gpos_tables.specs.declared.kern_table.Property.{Property}
use Rattle.ot_gpos_tables.specs.declared.kern_table.Property.TheVariants.{CrossStream, Machine}
use Rattle.std.specs.declared.cmp.Ordering.{Ordering}
use Rattle.font_tables.specs.Bisection.{beside_key, row_with}
use Rattle.font_tables.specs.Rows.{rows_within}

-- Rows of six bytes, from the eighth byte behind the header on: the first glyph, the second glyph, and the value. The two glyphs
-- together are the key.
abbrev pub pair_key : List ℕ → ℕ → ℕ → Option ℕ
pair_key subtable header row = number_32 subtable (header + 8 + 6 * row)

-- how many of the declared rows lie in the subtable
abbrev pub pair_count : List ℕ → ℕ → ℕ
pair_count subtable header = rows_within subtable (header + 8) 6 (unwrap_or (number_16 subtable header) 0)

-- where a pair lies from a row, by its two glyphs
abbrev pub beside_pair : List ℕ → ℕ → ℕ → ℕ → ℕ → Option Ordering
beside_pair subtable header left right row = beside_key (pair_key subtable header row) (left * 65536 + right)

-- the row of a pair
abbrev pub pair_row : List ℕ → ℕ → ℕ → ℕ → Option ℕ
pair_row subtable header left right = row_with (beside_pair subtable header left right) (pair_count subtable header)

-- the value in its row
abbrev pub pair_value : List ℕ → ℕ → ℕ → ℕ → Option ℤ
pair_value subtable header left right =
    option_map (λ row. unwrap_or (signed_16 subtable (header + 12 + 6 * row)) (pos 0))
    (pair_row subtable header left right)

-- The number of a glyph in a list of numbers, those of so many glyphs from a first glyph on; `None` where the list does not have
-- the glyph.
unfoldable pub class_number : List ℕ → ℕ → Option ℕ
class_number classes glyph =
    let first = unwrap_or (number_16 classes 0) 0 in
    if nat_le first glyph && nat_lt (glyph - first) (unwrap_or (number_16 classes 2) 0)
    then number_16 classes (4 + 2 * (glyph - first)) else None

-- The value at the byte that the numbers of the two glyphs add up to, not before the array of values. It stands at an even
-- place of the array.
abbrev pub value_at : List ℕ → ℕ → ℕ → ℤ
value_at subtable array at =
    if nat_le array at then unwrap_or (signed_16 subtable (array + 2 * ((at - array) / 2))) (pos 0) else pos 0

-- the value of a pair of classes
unfoldable pub classed_value : List ℕ → ℕ → ℕ → ℕ → ℤ
classed_value subtable header left right =
    let offset = λ (at : ℕ). unwrap_or (number_16 subtable at) 0 in
    unwrap_or (option_and_then (λ l. option_and_then (λ r. Some (value_at subtable (offset (header + 6)) (l + r)))
    (class_number (drop (offset (header + 4)) subtable) right))
    (class_number (drop (offset (header + 2)) subtable) left)) (pos 0)

-- the value of a pair of glyphs: by its row in format 0, by its classes in format 2, and 0 in others
unfoldable pub kerning : KernSubtable → ℕ → ℕ → ℤ
kerning s left right =
    if nat_eq s.format 0 then unwrap_or (pair_value s.table.now s.header left right) (pos 0)
    else if nat_eq s.format 2 then classed_value s.table.now s.header left right else pos 0

-- ---- subtables, by the headers of OpenType and of Apple

abbrev pub is_apple : List ℕ → Bool
is_apple table = is_number (number_16 table 0) 1

-- how many subtables the table declares: of the version 0 OpenType's, of the version 1 Apple's, and of others none
abbrev pub declared_count : List ℕ → ℕ
declared_count table =
    if is_number (number_16 table 0) 0 then unwrap_or (number_16 table 2) 0
    else if is_number (number_16 table 0) 1 then unwrap_or (number_32 table 4) 0
    else 0

abbrev pub has_bit : ℕ → ℕ → Bool
has_bit flags bit = not (nat_eq (bit_and flags bit) 0)

-- what the flags of a subtable say: Apple's `vertical` is the high bit, OpenType's `horizontal` the low one
abbrev pub coverage_of : Bool → ℕ → KernCoverage
coverage_of true flags = record {
  is_horizontal = nat_eq (bit_and flags 0x80) 0;
  is_cross_stream = has_bit flags 0x40;
  is_variation = has_bit flags 0x20;
}
coverage_of false flags = record {
  is_horizontal = has_bit flags 0x01;
  is_cross_stream = has_bit flags 0x04;
  is_variation = false;
}

-- the coverage has the format in its low byte, with the flags before it, in Apple's form, and in its high byte in OpenType's
pub record IsHeader (apple : Bool) (rest : List ℕ) (s : KernSubtable) : Type 0 where
  pub size : s.header ≡ (if apple then 8 else 6)
  pub format : byte_at rest (if apple then 5 else 4) ≡ Some s.format
  pub coverage : s.coverage ≡ coverage_of apple (unwrap_or (byte_at rest (if apple then 4 else 5)) 0)

-- how many bytes a subtable says that it has, where its header lies in what is left of the table
abbrev pub declared_length : Bool → List ℕ → Option ℕ
declared_length true rest =
    option_and_then (λ flags. option_and_then (λ variation. option_and_then (λ format. number_32 rest 0) (byte_at rest 5))
    (number_16 rest 6)) (byte_at rest 4)
declared_length false rest =
    option_and_then (λ flags. option_and_then (λ format. number_16 rest 2) (byte_at rest 4)) (byte_at rest 5)

-- a subtable that is no shorter than its header, and lies in what is left of the table
abbrev pub lying : Bool → List ℕ → ℕ → Option ℕ
lying apple rest count =
    if nat_lt count (if apple then 8 else 6) || nat_lt (length rest) count then None else Some count

abbrev pub subtable_length : Bool → List ℕ → Option ℕ
subtable_length apple rest = option_and_then (lying apple rest) (declared_length apple rest)

-- its bytes; those of the last subtable go up to the end of the table
abbrev pub subtable_bytes : Bool → ℕ → List ℕ → List ℕ
subtable_bytes is_last count rest = if is_last then rest else take count rest

-- ---- the subtables, one after the other

-- the format of the subtable at the head of what is left of the table, and what its values are for
abbrev pub format_in : Bool → List ℕ → ℕ
format_in apple rest = unwrap_or (byte_at rest (if apple then 5 else 4)) 0

abbrev pub coverage_in : Bool → List ℕ → KernCoverage
coverage_in apple rest = coverage_of apple (unwrap_or (byte_at rest (if apple then 4 else 5)) 0)

-- whether it is a state machine, and whether it moves glyphs across the line
abbrev pub is_machine : Bool → List ℕ → Bool
is_machine apple rest = nat_eq (format_in apple rest) 1

abbrev pub is_crossing : Bool → List ℕ → Bool
is_crossing apple rest = (coverage_in apple rest).is_cross_stream

-- a property of it, and of a subtable that was read
abbrev pub is_such : Property → Bool → List ℕ → Bool
is_such Machine = is_machine
is_such CrossStream = is_crossing

abbrev pub has_property : Property → KernSubtable → Bool
has_property Machine s = nat_eq s.format 1
has_property CrossStream s = s.coverage.is_cross_stream

-- whether a subtable holds the pairs that it says that it has, if it is one of pairs
abbrev pub holds_pairs : ℕ → ℕ → List ℕ → Bool
holds_pairs format header subtable =
    not (nat_eq format 0) || nat_le (header + 8 + 6 * unwrap_or (number_16 subtable header) 0) (length subtable)

-- where the first subtable begins, and the one behind a subtable of a size
abbrev pub first_subtable : Bool → ℕ
first_subtable apple = if apple then 8 else 4

abbrev pub behind_subtable : ℕ → ℕ → ℕ
behind_subtable at size = min (at + size) (2 ^ 64 - 1)

-- whether so many subtables from a place on lie in the table, with the pairs that they say that they have
abbrev pub are_whole : ℕ → Bool → List ℕ → ℕ → Bool
are_whole zero apple table at = true
are_whole (suc left) apple table at =
    option_map_or (λ size.
    holds_pairs (format_in apple (drop at table)) (if apple then 8 else 6) (subtable_bytes (nat_eq left 0) size (drop at table))
    && are_whole left apple table (behind_subtable at size))
    (subtable_length apple (drop at table)) false

-- how many subtables are read: those that the table declares, or none where one of them is cut short
abbrev pub subtable_count : List ℕ → ℕ
subtable_count table =
    if are_whole (declared_count table) (is_apple table) table (first_subtable (is_apple table)) then declared_count table else 0

-- whether a test holds of one of so many subtables from a place on. Where one does not lie in the table, none follows
abbrev pub some_subtable : (Bool → List ℕ → Bool) → ℕ → Bool → List ℕ → ℕ → Bool
some_subtable test zero apple table at = false
some_subtable test (suc left) apple table at =
    option_map_or (λ size.
    test apple (drop at table) || some_subtable test left apple table (behind_subtable at size))
    (subtable_length apple (drop at table)) false

-- whether a test holds of one of the subtables of a table
abbrev pub has_subtable : (Bool → List ℕ → Bool) → KernTable → Bool
has_subtable test kern =
    some_subtable test kern.count kern.is_apple kern.table.now (first_subtable kern.is_apple)
