-- How much of a region's deltas holds at a place in the variations of a font, as HarfBuzz computes it.
use Rattle.std.specs.Prelude.{ℕ, ℤ, zero, suc, List, Option, Bool, false, ◌+◌, ◌*◌, ◌-ℤ◌, ◌&&◌, ◌||◌, pos, nat_lt, slice_get, unwrap_or}
use Rattle.std.specs.Prelude.{if◌then◌else◌, option_and_then, option_map, int_lt, int_le}
use Rattle.std.specs.Ordering.{int_eq}
use Rattle.std.specs.Float.{float_zero, float_one}
use Rattle.std.specs.Float.Ieee.{Float, mul, div, eq, of_int, binary32}
use Rattle.font_tables.specs.Bytes.{number_16, signed_16}

-- the float of a whole number
abbrev pub float : ℤ → Float
float n = of_int binary32 n

-- whether the numbers of an axis are out of order, or lie on both sides of the default: then the axis counts for nothing
abbrev pub is_disordered : ℤ → ℤ → ℤ → Bool
is_disordered start peak end =
    (int_lt peak start || int_lt end peak) || (int_lt start (pos 0) && int_lt (pos 0) end)

-- whether a coordinate is the peak of an axis, or the peak is the default
abbrev pub is_at_peak : ℤ → ℤ → Bool
is_at_peak peak at = int_eq peak (pos 0) || int_eq at peak

-- whether a coordinate does not lie between the start and the end of an axis
abbrev pub is_outside : ℤ → ℤ → ℤ → Bool
is_outside start end at = int_le at start || int_le end at

-- between the start and the end of an axis: nothing at both, and evenly up to the peak and down from it
abbrev pub inner_scalar : ℤ → ℤ → ℤ → ℤ → Float
inner_scalar start peak end at =
    if is_outside start end at then float_zero
    else if int_lt at peak then div binary32 (float (at -ℤ start)) (float (peak -ℤ start))
    else div binary32 (float (end -ℤ at)) (float (end -ℤ peak))

-- how much of a region's deltas an axis leaves at a coordinate: all at the peak, nothing at the ends, and evenly between; nothing
-- at the default, and all where the peak is the default
unfoldable pub axis_scalar : ℤ → ℤ → ℤ → ℤ → Float
axis_scalar start peak end at =
    if is_at_peak peak at then float_one
    else if int_eq at (pos 0) then float_zero
    else if is_disordered start peak end then float_one
    else inner_scalar start peak end at

-- the coordinate of an axis among those of a place: the default where there is none
abbrev pub coordinate : List ℤ → ℕ → ℤ
coordinate coordinates axis = unwrap_or (slice_get coordinates axis) (pos 0)

-- how much of a region's deltas an axis leaves, by the three numbers at a place; `None` where the table does not hold them
abbrev pub scalar_at : List ℕ → ℕ → ℤ → Option Float
scalar_at list at coordinate =
    option_and_then (λ start.
    option_and_then (λ peak.
    option_map (λ end. axis_scalar start peak end coordinate)
    (signed_16 list (at + 4))) (signed_16 list (at + 2))) (signed_16 list at)

-- the same of an axis of a region; nothing where the table does not hold it
abbrev pub factor : List ℕ → ℕ → List ℤ → ℕ → Float
factor list region coordinates axis =
    let axes = unwrap_or (number_16 list 0) 0 in
    unwrap_or (scalar_at list (4 + 6 * axes * region + 6 * axis) (coordinate coordinates axis)) float_zero

-- whether one of the first factors is nothing
abbrev pub has_zero : (ℕ → Float) → ℕ → Bool
has_zero f zero = false
has_zero f (suc n) = has_zero f n || eq (f n) float_zero

-- the product of the first factors, one after the other
abbrev pub product : (ℕ → Float) → ℕ → Float
product f zero = float_one
product f (suc n) = mul binary32 (product f n) (f n)

-- how much of a region's deltas holds at a place: the product over all axes, and nothing where one of them leaves nothing
unfoldable pub region_scalar : List ℕ → ℕ → List ℤ → Float
region_scalar list region coordinates =
    let axes = unwrap_or (number_16 list 0) 0 in
    if nat_lt region (unwrap_or (number_16 list 2) 0)
    then if has_zero (factor list region coordinates) axes then float_zero
    else product (factor list region coordinates) axes else float_zero
