-- The table `trak`: how much is added between glyphs, by the size of a font in points.
use Rattle.std.specs.Prelude.{ℕ, ℤ, Bool, true, List, Option, Some, None, ◌+◌, ◌*◌, ◌-◌, unwrap_or, pos, drop, nat_eq, max, if◌then◌else◌}
use Rattle.std.specs.Prelude.{option_and_then, option_map}
use Rattle.std.specs.Int.{cast_signed, w32}
use Rattle.std.specs.Float.{float_zero, float_one}
use Rattle.std.specs.Float.Ieee.{Float, mul, add, sub, div, eq, le, of_int, binary32}
use Rattle.font_tables.specs.Bytes.{is_number, number_16, number_32, signed_16}
use Rattle.font_tables.specs.Rows.{first_below}
use Rattle.font_variations.specs.Rounding.{rounded}

-- the part of the table for horizontal or for vertical lines, which the number at a place leads to
abbrev pub track_data : List ℕ → ℕ → Option (List ℕ)
track_data table at = let offset = unwrap_or (number_16 table at) 0 in if nat_eq offset 0 then None else Some (drop offset table)

-- the value of a track: of eight bytes each, from the byte 8 of the part on
abbrev pub track_value : List ℕ → ℕ → Option ℕ
track_value tracks track = number_32 tracks (8 + 8 * track)

-- normal spacing is the track of the value 0; where a track is cut short, none is looked for behind it
abbrev pub is_normal : Option ℕ → Bool
is_normal None = true
is_normal (Some value) = nat_eq value 0

-- the first track of normal spacing
abbrev pub normal_track : List ℕ → ℕ → Option ℕ
normal_track tracks count = first_below (λ track. is_normal (track_value tracks track)) count

-- the values of that track, one for each size
abbrev pub normal_values : List ℕ → List ℕ → Option (List ℕ)
normal_values table tracks =
    option_and_then (λ count. option_and_then (λ track. option_and_then (λ value. option_map (λ offset. drop offset table)
    (number_16 tracks (14 + 8 * track))) (track_value tracks track)) (normal_track tracks count)) (number_16 tracks 0)

-- the value for a size
abbrev pub value_at : List ℕ → ℕ → Option ℤ
value_at values place = signed_16 values (2 * place)

-- the size at a place, in points: a number of 32 bits, of which 16 are behind the point
abbrev pub size_at : List ℕ → ℕ → Option Float
size_at sizes place =
    option_map (λ size. div binary32 (of_int binary32 (cast_signed w32 size)) (of_int binary32 (pos 65536)))
    (number_32 sizes (4 * place))

-- whether a size is not below the one that is asked for; where one is cut short, none is looked for behind it
abbrev pub is_at_least : Float → Option Float → Bool
is_at_least points None = true
is_at_least points (Some size) = le points size

-- the place of the first of so many sizes that is not below the one that is asked for, or of the last
abbrev pub size_place : List ℕ → ℕ → Float → ℕ
size_place sizes count points =
    unwrap_or (first_below (λ place. is_at_least points (size_at sizes place)) (count - 1)) (count - 1)

-- how far a number is on the way from one number to another: 0 where these are one number
abbrev pub part_of_way : Float → Float → Float → Float
part_of_way from to at = if eq from to then float_zero else div binary32 (sub binary32 at from) (sub binary32 to from)

-- so many parts of the way from one number to another, to the nearest whole number
abbrev pub between : Float → ℤ → ℤ → ℤ
between part from to =
    rounded (add binary32 (mul binary32 part (of_int binary32 to)) (mul binary32 (sub binary32 float_one part) (of_int binary32 from)))

-- between the values of two sizes, of which the second stands at a place
abbrev pub value_between : List ℕ → List ℕ → ℕ → Float → Option ℤ
value_between values sizes place points =
    option_and_then (λ from. option_and_then (λ to. option_and_then (λ low. option_map
    (λ high. between (part_of_way from to points) low high)
    (value_at values place)) (value_at values (place - 1))) (size_at sizes place)) (size_at sizes (place - 1))

-- the value at a size: of one size its own; of several, between that of the first one that is not below and the one before
abbrev pub value_of : List ℕ → List ℕ → ℕ → Float → Option ℤ
value_of values sizes count points =
    if nat_eq count 0 then None
    else if nat_eq count 1 then value_at values 0
    else value_between values sizes (max (size_place sizes count points) 1) points

-- what is added by a part of the table: how many sizes there are stands at its byte 2, and where they stand in the table at its byte 4
abbrev pub tracked : List ℕ → List ℕ → Float → Option ℤ
tracked table tracks points =
    option_and_then (λ values. option_and_then (λ count. option_and_then (λ at. value_of values (drop at table) count points)
    (number_32 tracks 4)) (number_16 tracks 2)) (normal_values table tracks)

-- how many font units are added to each advance at a size in points; only a table of version 1 says so
abbrev pub tracking_at : List ℕ → Bool → Float → ℤ
tracking_at table is_horizontal points =
    if is_number (number_16 table 0) 1
    then unwrap_or (option_and_then (λ tracks. tracked table tracks points) (track_data table (if is_horizontal then 6 else 8))) (pos 0)
    else pos 0

-- a number of font units where an em has this length, to the nearest whole number
abbrev pub scaled : ℤ → ℤ → ℕ → ℤ
scaled units size units_per_em =
    rounded (mul binary32 (of_int binary32 units) (div binary32 (of_int binary32 size) (of_int binary32 (pos units_per_em))))
