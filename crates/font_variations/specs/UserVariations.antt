-- The values that a user chooses on axes.
use Rattle.std.specs.Prelude.{ℕ, zero, suc, List, Option, Some, None, length, slice_get, nat_eq, unwrap_or, option_and_then, if◌then◌else◌}
use Rattle.std.specs.Option.{option_or}
use Rattle.std.specs.Float.Ieee.{Float}
use Rattle.font_variations.specs.Axes.{instance_value}
use Rattle.font_variations.specs.declared.axes.Axis.{Axis}
use Rattle.font_variations.specs.declared.axes.VariationAxes.{VariationAxes}
use Rattle.font_variations.specs.declared.user_variations.Variation.{Variation}

-- the value of a variation, if it is for a tag
abbrev pub value_for : ℕ → Variation → Option Float
value_for tag v = if nat_eq v.tag.0 tag then Some v.value else None

-- the last of the first values that is there
abbrev pub last_below : (ℕ → Option Float) → ℕ → Option Float
last_below value zero = None
last_below value (suc n) = option_or (value n) (last_below value n)

-- the value of the variation at a place, if it is for a tag
abbrev pub chosen : List Variation → ℕ → ℕ → Option Float
chosen variations tag n = option_and_then (value_for tag) (slice_get variations n)

-- the last value that is chosen with a tag
abbrev pub last_with_tag : List Variation → ℕ → Option Float
last_with_tag variations tag = last_below (chosen variations tag) (length variations)

-- the value on an axis: the last one that is chosen, else that of a named instance, and else the default
abbrev pub value_on : VariationAxes → ℕ → Axis → Option ℕ → List Variation → Float
value_on axes number axis instance variations =
    unwrap_or (option_or (last_with_tag variations axis.tag.0)
    (option_and_then (λ i. instance_value axes i number) instance)) axis.default
