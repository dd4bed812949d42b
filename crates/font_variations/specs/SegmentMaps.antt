-- Where normalized coordinates are moved on their axes (OpenType specification, "avar - Axis Variations Table").
use Rattle.std.specs.Prelude.{ℕ, ℤ, zero, suc, pos, negsuc, List, [], Bool, Option, Some, None, length, is_some, option_and_then, ◌+◌, ◌-◌, ◌*◌, ◌&&◌, ◌||◌, ◌+ℤ◌, ◌-ℤ◌, int_le, nat_eq, nat_lt, nat_le, drop, unwrap_or, if◌then◌else◌}
use Rattle.std.specs.Option.{option_map_or}
use Rattle.std.specs.Ordering.{int_eq}
use Rattle.std.specs.Int.{w32, saturate_signed, int_min, int_max}
use Rattle.std.specs.Float.Ieee.{add, mul, div, binary32}
use Rattle.font_tables.specs.Bytes.{number_16, signed_16, is_number, table_at_32}
use Rattle.font_tables.specs.Rows.{first_below}
use Rattle.font_variations.specs.Regions.{coordinate, float}
use Rattle.font_variations.specs.Rounding.{rounded}
use Rattle.font_variations.specs.IndexMap.{index_of}
use Rattle.font_variations.specs.VariationStore.{delta}
use Rattle.font_variations.specs.declared.segment_maps.AxisMaps.{AxisMaps}
use Rattle.font_variations.specs.declared.segment_maps.SecondMap.{SecondMap}

-- how many pairs a segment map has, each of a coordinate and of where it is moved
abbrev pub pair_count : List ℕ → ℕ
pair_count map = unwrap_or (number_16 map 0) 0

abbrev pub from_at : List ℕ → ℕ → ℤ
from_at map n = unwrap_or (signed_16 map (2 + 4 * n)) (pos 0)

abbrev pub to_at : List ℕ → ℕ → ℤ
to_at map n = unwrap_or (signed_16 map (4 + 4 * n)) (pos 0)

-- the segment maps behind the first one, and those from a number on
abbrev pub behind_map : List ℕ → List ℕ
behind_map maps = drop (2 + 4 * pair_count maps) maps

abbrev pub maps_from : List ℕ → ℕ → List ℕ
maps_from maps zero = maps
maps_from maps (suc n) = behind_map (maps_from maps n)

-- where the segment map at a place ends, if it is all there, and where so many of them end
abbrev pub end_of_map : List ℕ → ℕ → Option ℕ
end_of_map maps at =
    option_and_then (λ pairs. if nat_le (at + 2 + 4 * pairs) (length maps) then Some (at + 2 + 4 * pairs) else None) (number_16 maps at)

abbrev pub end_of : List ℕ → ℕ → Option ℕ
end_of maps zero = Some 0
end_of maps (suc n) = option_and_then (end_of_map maps) (end_of maps n)

-- a table of major version 1 or 2 that holds the segment maps that it declares
unfoldable pub is_whole : List ℕ → Bool
is_whole avar =
    (is_number (number_16 avar 0) 1 || is_number (number_16 avar 0) 2)
    && is_some (end_of (drop 8 avar) (unwrap_or (number_16 avar 6) 0))

-- the tables of the second step of version 2: which delta set is for which axis, and the deltas
pub record SecondTables : Type 0 where
  pub indices : List ℕ
  pub store : List ℕ

abbrev pub tables_of : SecondMap → SecondTables
tables_of second = record { indices = second.indices.table.now; store = second.store.table.now }

-- their offsets stand at a place; a null offset leads to an empty table
abbrev pub tables_at : List ℕ → ℕ → Option SecondTables
tables_at avar at =
    if nat_le (at + 8) (length avar)
    then Some (record { indices = unwrap_or (table_at_32 avar at) []; store = unwrap_or (table_at_32 avar (at + 4)) [] })
    else None

-- which is behind the segment maps
unfoldable pub second_of : List ℕ → Option SecondTables
second_of avar =
    if is_whole avar && is_number (number_16 avar 0) 2
    then tables_at avar (8 + unwrap_or (end_of (drop 8 avar) (unwrap_or (number_16 avar 6) 0)) 0)
    else None

-- sums of 32 bits
abbrev pub plus : ℤ → ℤ → ℤ
plus a b = saturate_signed w32 (a +ℤ b)

abbrev pub minus : ℤ → ℤ → ℤ
minus a b = saturate_signed w32 (a -ℤ b)

-- a coordinate, moved as far as a pair moves its own
abbrev pub shifted : ℤ → ℤ → ℤ → ℤ
shifted at from to = plus (minus at from) to

-- evenly between two pairs, to the nearest number
abbrev pub between : ℤ → ℤ → ℤ → ℤ → ℤ → ℤ
between low_from low_to high_from high_to at =
    rounded (add binary32 (float low_to) (div binary32 (mul binary32 (float (minus high_to low_to)) (float (minus at low_from))) (float (minus high_from low_from))))

-- whether a coordinate is not above that of a pair behind the first one
abbrev pub is_up_to : List ℕ → ℤ → ℕ → Bool
is_up_to map at n = nat_le 1 n && int_le at (from_at map n)

-- the first such pair, or the last one
abbrev pub segment_of : List ℕ → ℕ → ℤ → ℕ
segment_of map last at = unwrap_or (first_below (is_up_to map at) last) last

-- in the segment that ends with a pair. From that pair on, a coordinate is moved as far as it moves its own
abbrev pub in_segment : List ℕ → ℕ → ℤ → ℤ
in_segment map n at =
    if int_le (from_at map n) at then shifted at (from_at map n) (to_at map n)
    else if int_eq (from_at map (n - 1)) (from_at map n) then to_at map (n - 1)
    else between (from_at map (n - 1)) (to_at map (n - 1)) (from_at map n) (to_at map n) at

-- whether a map has one pair alone, or a coordinate is not above that of its first
abbrev pub is_up_to_first : List ℕ → ℤ → Bool
is_up_to_first map at = nat_eq (pair_count map) 1 || int_le at (from_at map 0)

-- where a segment map moves a coordinate: evenly between two pairs, and outside of all as far as it moves the nearest. A map with no
-- pairs moves none
unfoldable pub mapped : List ℕ → ℤ → ℤ
mapped map at =
    if nat_eq (pair_count map) 0 then at
    else if is_up_to_first map at then shifted at (from_at map 0) (to_at map 0)
    else in_segment map (segment_of map (pair_count map - 1) at) at

-- where the coordinate of an axis is moved by the segment map of the axis, of which there are so many
abbrev pub moved_on : List ℕ → ℕ → ℕ → ℤ → ℤ
moved_on maps count axis at = if nat_lt axis count then mapped (maps_from maps axis) at else at

-- where the coordinate of an axis is moved by the delta of the axis at all the coordinates, but not beyond -16384 and 16384
abbrev pub clamped : ℤ → ℤ
clamped at = int_max (negsuc 16383) (int_min at (pos 16384))

unfoldable pub moved_by_all : AxisMaps → ℕ → List ℤ → ℤ
moved_by_all maps axis coordinates =
    option_map_or (λ second.
    clamped (plus (coordinate coordinates axis)
    (rounded (delta second.store.table.now (index_of second.indices.table.now axis) coordinates))))
    maps.second (coordinate coordinates axis)
