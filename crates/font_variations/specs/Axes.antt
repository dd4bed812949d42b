-- The axes of a font, its named instances, and normalized coordinates (OpenType specification, "fvar - Font Variations Table" and
-- "Coordinate Scales and Normalization").
use Rattle.std.specs.Prelude.{ℕ, ℤ, pos, List, Option, None, Bool, ◌+◌, ◌*◌, ◌&&◌, nat_lt, nat_le, length, take, drop, unwrap_or, option_map, option_and_then, if◌then◌else◌}
use Rattle.std.specs.Int.{w32, cast_signed}
use Rattle.std.specs.Float.{two_to}
use Rattle.std.specs.Float.Ieee.{Float, sub, mul, div, eq, lt, le, binary32}
use Rattle.font_tables.specs.Bytes.{number_16, number_32, is_number}
use Rattle.font_variations.specs.Regions.{float}
use Rattle.font_variations.specs.Rounding.{rounded}
use Rattle.font_variations.specs.declared.axes.Axis.{Axis}
use Rattle.font_variations.specs.declared.axes.VariationAxes.{VariationAxes}

-- the number of 65536ths at a place
abbrev pub value_at : List ℕ → ℕ → Option Float
value_at table at = option_map (λ n. div binary32 (float (cast_signed w32 n)) (two_to 16)) (number_32 table at)

-- where the records of axes begin, and how many there are
abbrev pub axes_from : List ℕ → List ℕ
axes_from fvar = drop (unwrap_or (number_16 fvar 4) 0) fvar

abbrev pub axis_count : List ℕ → ℕ
axis_count fvar = unwrap_or (number_16 fvar 8) 0

-- how many named instances there are, and how many bytes the record of one has
abbrev pub instance_count : List ℕ → ℕ
instance_count fvar = unwrap_or (number_16 fvar 12) 0

abbrev pub instance_size : List ℕ → ℕ
instance_size fvar = unwrap_or (number_16 fvar 14) 0

-- a table of major version 1 whose records of axes have 20 bytes
abbrev pub is_fvar : List ℕ → Bool
is_fvar fvar = nat_le 16 (length fvar) && (is_number (number_16 fvar 0) 1 && is_number (number_16 fvar 10) 20)

-- one that holds the records that it declares, those of instances behind those of axes. An instance has a value on each axis
unfoldable pub is_whole : List ℕ → Bool
is_whole fvar =
    is_fvar fvar
    && (nat_le (20 * axis_count fvar) (length (axes_from fvar))
    && (nat_le (4 * axis_count fvar + 4) (instance_size fvar)
    && nat_le (instance_count fvar * instance_size fvar) (length (drop (20 * axis_count fvar) (axes_from fvar)))))

-- the axis of a record: a least value above the default, or a greatest one below it, is the default
abbrev pub axis_of : List ℕ → Option Axis
axis_of bytes =
    option_and_then (λ tag.
    option_and_then (λ default.
    option_and_then (λ first.
    option_map (λ last. record {
      tag = record { 0 = tag };
      minimum = if lt first default then first else default;
      default = default;
      maximum = if lt default last then last else default;
    }) (value_at bytes 12)) (value_at bytes 4)) (value_at bytes 8)) (number_32 bytes 0)

-- the axis with a number
unfoldable pub axis : List ℕ → ℕ → Option Axis
axis axes number = axis_of (take 20 (drop (20 * number) axes))

-- the value of a named instance on an axis
unfoldable pub instance_value : VariationAxes → ℕ → ℕ → Option Float
instance_value axes instance axis =
    if nat_lt instance axes.instance_count && nat_lt axis axes.axis_count
    then value_at axes.instances.now (instance * axes.instance_size + 4 + 4 * axis) else None

-- a value, no less than the least and no greater than the greatest
abbrev pub at_least : Axis → Float → Float
at_least axis value = if le axis.minimum value then value else axis.minimum

abbrev pub within : Axis → Float → Float
within axis value = if le (at_least axis value) axis.maximum then at_least axis value else axis.maximum

-- how far a value lies from the default to one end of an axis, in 16384ths
abbrev pub part_of : Float → Float → Float → Float
part_of value default length = mul binary32 (div binary32 (sub binary32 value default) length) (two_to 14)

-- the normalized coordinate of a value: 0 at the default, and evenly down to -1 at the least value and up to 1 at the greatest
abbrev pub normalized_within : Axis → Float → ℤ
normalized_within axis value =
    if eq value axis.default then pos 0
    else if lt value axis.default then rounded (part_of value axis.default (sub binary32 axis.default axis.minimum))
    else rounded (part_of value axis.default (sub binary32 axis.maximum axis.default))

unfoldable pub normalized : Axis → Float → ℤ
normalized axis value = normalized_within axis (within axis value)
