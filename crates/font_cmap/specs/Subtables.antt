-- The subtables of `cmap`, by their formats: the glyph that each gives to a code.
use Rattle.std.specs.Prelude.{ℕ, List, Option, Some, None, ◌+◌, ◌-◌, ◌*◌, ◌/◌, ◌%◌, nat_eq, nat_lt, ◌||◌}
use Rattle.std.specs.Prelude.{if◌then◌else◌}
use Rattle.std.specs.Prelude.{unwrap_or, option_and_then}
use Rattle.font_tables.specs.Bytes.{byte_at, number_16, number_32}
use Rattle.font_tables.specs.Bisection.{beside_range, row_with}
use Rattle.std.specs.declared.cmp.Ordering.{Ordering}
use Rattle.std.specs.declared.cmp.Ordering.TheVariants.{Less, Equal, Greater}

-- the glyph of a number: 0 is no glyph, and none is above 65,535
abbrev pub some_glyph : ℕ → Option ℕ
some_glyph number = if nat_eq number 0 then None else if nat_lt number 65536 then Some number else None

-- format 0: a byte for each of the first 256 codes
unfoldable pub byte_glyph : List ℕ → ℕ → Option ℕ
byte_glyph bs code = if nat_lt code 256 then option_and_then some_glyph (byte_at bs (6 + code)) else None

-- the glyph of a code among `count` glyphs from a place on, of which `first` has the first
unfoldable pub listed_glyph : List ℕ → ℕ → ℕ → ℕ → ℕ → Option ℕ
listed_glyph bs place first count code =
    if nat_lt code first then None
    else if nat_lt (code - first) count then option_and_then some_glyph (number_16 bs (place + 2 * (code - first)))
    else None

-- formats 6 and 10: a first code, how many glyphs there are, and a glyph for each code from the first on
unfoldable pub trimmed_table_glyph : List ℕ → ℕ → Option ℕ
trimmed_table_glyph bs code =
    option_and_then (λ first. option_and_then (λ count. listed_glyph bs 10 first count code) (number_16 bs 8))
    (number_16 bs 6)

unfoldable pub trimmed_array_glyph : List ℕ → ℕ → Option ℕ
trimmed_array_glyph bs code =
    option_and_then (λ first. option_and_then (λ count. listed_glyph bs 20 first count code) (number_32 bs 16))
    (number_32 bs 12)

-- format 4: segments, of which four lists have the ends, the starts, the deltas and the range offsets
unfoldable pub segment_count : List ℕ → ℕ
segment_count bs = unwrap_or (number_16 bs 6) 0 / 2

abbrev pub segment_end : List ℕ → ℕ → Option ℕ
segment_end bs row = number_16 bs (14 + 2 * row)

-- the number at a place of a list behind the ends: starts (1), deltas (2), range offsets and then glyphs (3)
unfoldable pub number_of_list : List ℕ → ℕ → ℕ → Option ℕ
number_of_list bs list place = number_16 bs (16 + list * (2 * segment_count bs) + 2 * place)

-- the glyph that stands so many places behind the range offset of a row: behind all of the range offsets
unfoldable pub glyph_behind_range_offset : List ℕ → ℕ → ℕ → Option ℕ
glyph_behind_range_offset bs row distance =
    if nat_lt (row + distance) (segment_count bs) then None else number_of_list bs 3 (row + distance)

-- the delta is added, and what passes 65,535 goes on from 0
abbrev pub with_delta : ℕ → ℕ → Option ℕ
with_delta delta number = some_glyph ((number + delta) % 65536)

-- a code is its own glyph where the range offset is 0. Else the glyph stands half that number of places behind the
-- range offset, and one place more for each code behind the start. To either the delta is added
unfoldable pub glyph_in_segment : List ℕ → ℕ → ℕ → ℕ → ℕ → ℕ → Option ℕ
glyph_in_segment bs code row start delta offset =
    if nat_lt code start then None
    else if nat_eq offset 0 then with_delta delta code
    else option_and_then (with_delta delta)
    (option_and_then some_glyph (glyph_behind_range_offset bs row (offset / 2 + (code - start))))

unfoldable pub segment_glyph : List ℕ → ℕ → ℕ → Option ℕ
segment_glyph bs code row =
    option_and_then (λ start. option_and_then (λ delta.
    option_and_then (glyph_in_segment bs code row start delta) (number_of_list bs 3 row))
    (number_of_list bs 2 row)) (number_of_list bs 1 row)

-- where a code that is not behind a segment lies, by the segment's start
abbrev pub beside_start : Option ℕ → ℕ → Option Ordering
beside_start None code = None
beside_start (Some start) code = Some (if nat_lt code start then Less else Equal)

-- where a code lies from the segment of a row
abbrev pub beside_end : Option ℕ → Option ℕ → ℕ → Option Ordering
beside_end None start code = None
beside_end (Some end) start code = if nat_lt end code then Some Greater else beside_start start code

abbrev pub beside_segment : List ℕ → ℕ → ℕ → Option Ordering
beside_segment bs code row = beside_end (segment_end bs row) (number_of_list bs 1 row) code

-- the segment that bisection finds has the code's glyph
unfoldable pub segments_glyph : List ℕ → ℕ → Option ℕ
segments_glyph bs code = option_and_then (segment_glyph bs code) (row_with (beside_segment bs code) (segment_count bs))

-- formats 12 and 13: groups, each with its first and last code and a glyph
unfoldable pub group_count : List ℕ → ℕ
group_count bs = unwrap_or (number_32 bs 12) 0

abbrev pub group_start : List ℕ → ℕ → Option ℕ
group_start bs row = number_32 bs (16 + 12 * row)

abbrev pub group_end : List ℕ → ℕ → Option ℕ
group_end bs row = number_32 bs (20 + 12 * row)

abbrev pub beside_group : List ℕ → ℕ → ℕ → Option Ordering
beside_group bs code row = beside_range (group_start bs row) (group_end bs row) code

-- a group of format 12 counts its glyphs up from the first, and one of format 13 has one glyph for all of its codes
unfoldable pub glyph_in_group : ℕ → ℕ → ℕ → ℕ → Option ℕ
glyph_in_group format code start glyph =
    if nat_lt code start then None
    else if nat_eq format 12 then some_glyph (glyph + (code - start)) else some_glyph glyph

unfoldable pub group_glyph : List ℕ → ℕ → ℕ → ℕ → Option ℕ
group_glyph bs format code row =
    option_and_then (λ start. option_and_then (glyph_in_group format code start) (number_32 bs (24 + 12 * row)))
    (group_start bs row)

-- the group that bisection finds has the code's glyph
unfoldable pub groups_glyph : List ℕ → ℕ → ℕ → Option ℕ
groups_glyph bs format code =
    option_and_then (group_glyph bs format code) (row_with (beside_group bs code) (group_count bs))

-- a subtable begins with its format
unfoldable pub glyph_by_format : List ℕ → ℕ → ℕ → Option ℕ
glyph_by_format bs code format =
    if nat_eq format 0 then byte_glyph bs code
    else if nat_eq format 4 then segments_glyph bs code
    else if nat_eq format 6 then trimmed_table_glyph bs code
    else if nat_eq format 10 then trimmed_array_glyph bs code
    else if nat_eq format 12 || nat_eq format 13 then groups_glyph bs format code
    else None

-- the glyph that a subtable gives to a code
unfoldable pub subtable_glyph : List ℕ → ℕ → Option ℕ
subtable_glyph bs code = option_and_then (glyph_by_format bs code) (number_16 bs 0)
