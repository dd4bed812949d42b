-- Deltas of variations at the size of a font.
use Rattle.std.specs.Prelude.{ℕ, ℤ, pos, if◌then◌else◌}
use Rattle.std.specs.Float.Ieee.{Float, mul, div, of_int, binary32}
use Rattle.font_variations.specs.Rounding.{rounded}
use Rattle.font_variations.specs.VariationStore.{is_varied, chosen_delta}
use Rattle.ot_gpos_tables.specs.declared.instance.Instance.{Instance}

-- a number of font units where an em has this length, to the nearest whole number
abbrev pub scaled_delta : Float → ℤ → ℕ → ℤ
scaled_delta delta size units =
    rounded (mul binary32 delta (div binary32 (of_int binary32 size) (of_int binary32 (pos units))))

-- how far a delta set moves a point across, and upwards
abbrev pub x_delta : Instance → ℕ → ℤ
x_delta instance index =
    if is_varied instance.deltas
    then scaled_delta (chosen_delta instance.deltas index) instance.scale.x instance.scale.units_per_em else pos 0

abbrev pub y_delta : Instance → ℕ → ℤ
y_delta instance index =
    if is_varied instance.deltas
    then scaled_delta (chosen_delta instance.deltas index) instance.scale.y instance.scale.units_per_em else pos 0
