-- How much of a tuple's deltas holds at a place in the variations of a font, by its peaks and its ends, as HarfBuzz computes it: in floats
-- of 64 bits.
use Rattle.std.specs.Prelude.{ℕ, ℤ, zero, suc, pos, List, Option, Bool, ◌+◌, ◌*◌, ◌-ℤ◌, ◌||◌, int_lt, unwrap_or, if◌then◌else◌}
use Rattle.std.specs.Ordering.{int_eq}
use Rattle.std.specs.Option.{option_map_or}
use Rattle.std.specs.Int.{int_min, int_max}
use Rattle.std.specs.Float.{float_zero, float_one, round_to_format}
use Rattle.std.specs.Float.Ieee.{Float, mul, div, of_int, binary32, binary64}
use Rattle.font_tables.specs.Bytes.{signed_16}
use Rattle.font_variations.specs.Regions.{coordinate, has_zero, is_at_peak, is_disordered}

-- the float of a whole number
abbrev pub double : ℤ → Float
double n = of_int binary64 n

-- the coordinate of an axis in tuples; the default where they do not hold it
abbrev pub number : List ℕ → ℕ → ℤ
number tuples axis = unwrap_or (signed_16 tuples (2 * axis)) (pos 0)

-- where only the peak is said: evenly from the default up to the peak, and nothing elsewhere
abbrev pub is_beyond : ℤ → ℤ → Bool
is_beyond peak at = int_eq at (pos 0) || (int_lt at (int_min peak (pos 0)) || int_lt (int_max peak (pos 0)) at)

abbrev pub factor_to : ℤ → ℤ → Float
factor_to peak at = if is_beyond peak at then float_zero else div binary64 (double at) (double peak)

-- where it is said where the deltas begin and end to hold: evenly up to the peak and down from it, and nothing outside. Numbers out of
-- order take nothing away
abbrev pub is_outside : ℤ → ℤ → ℤ → Bool
is_outside start end at = int_lt at start || int_lt end at

abbrev pub slope : ℤ → ℤ → ℤ → ℤ → Float
slope start peak end at =
    if int_lt at peak then div binary64 (double (at -ℤ start)) (double (peak -ℤ start))
    else div binary64 (double (end -ℤ at)) (double (end -ℤ peak))

abbrev pub factor_between : ℤ → ℤ → ℤ → ℤ → Float
factor_between start peak end at =
    if is_disordered start peak end then float_one
    else if is_outside start end at then float_zero else slope start peak end at

-- how much of the deltas an axis leaves: all at the peak, and where the peak is the default. The tuple for the ends stands behind that
-- for the starts
unfoldable pub axis_factor : List ℕ → Option (List ℕ) → ℕ → ℕ → ℤ → Float
axis_factor peaks ends axes axis at =
    if is_at_peak (number peaks axis) at then float_one
    else option_map_or (λ bounds. factor_between (number bounds axis) (number peaks axis) (number bounds (axes + axis)) at)
    ends (factor_to (number peaks axis) at)

-- the same at a place
abbrev pub factor : List ℕ → Option (List ℕ) → ℕ → List ℤ → ℕ → Float
factor peaks ends axes coordinates axis = axis_factor peaks ends axes axis (coordinate coordinates axis)

-- the product of the first factors, one after the other
abbrev pub product : (ℕ → Float) → ℕ → Float
product f zero = float_one
product f (suc n) = mul binary64 (product f n) (f n)

-- how much of the deltas holds: the product over all axes, and nothing where one of them leaves nothing
unfoldable pub scalar : List ℕ → Option (List ℕ) → ℕ → List ℤ → Float
scalar peaks ends axes coordinates =
    if has_zero (factor peaks ends axes coordinates) axes then float_zero
    else round_to_format binary32 (product (factor peaks ends axes coordinates) axes)
