-- Which bits of a glyph's mask the features of a plan have.
use Rattle.std.specs.Prelude.{ℕ, ◌≡◌, ◌≢◌, ◌<◌, ◌≤◌, ◌+◌, ◌^◌, List, [], ◌∷◌, Some, slice_get, nat_eq, if◌then◌else◌, bit_or}
use Rattle.ot_map.specs.Masks.{value_in}
use Rattle.ot_map.specs.declared.plan.PlannedFeature.{PlannedFeature}

-- a feature has bits of its own, and not the last bit, which every glyph has
abbrev pub HasOwnBits : PlannedFeature → Type 0
HasOwnBits feature = feature.bits.shift ≢ 31

-- no two features share a bit of their own: those of the later one stand above those of the earlier one
abbrev pub BitsAreApart : List PlannedFeature → Type 0
BitsAreApart features =
    (i j : ℕ) (f g : PlannedFeature) → i < j → slice_get features i ≡ Some f → slice_get features j ≡ Some g
    → HasOwnBits f → HasOwnBits g → f.bits.shift + f.bits.count ≤ g.bits.shift

-- they stand above the four lowest bits, where the glyph flags are, and below the two highest
abbrev pub BitsAreInside : List PlannedFeature → Type 0
BitsAreInside features =
    (i : ℕ) (f : PlannedFeature) → slice_get features i ≡ Some f → HasOwnBits f
    → (4 ≤ f.bits.shift) × (f.bits.shift + f.bits.count ≤ 30)

-- what a feature adds to the mask of every glyph
abbrev pub default_mask : PlannedFeature → ℕ
default_mask feature =
    if nat_eq feature.bits.shift 31 then 0 else value_in feature.bits.shift feature.bits.count feature.default_value

-- a mask with the default values of features
abbrev pub with_defaults : ℕ → List PlannedFeature → ℕ
with_defaults mask [] = mask
with_defaults mask (feature ∷ features) = with_defaults (bit_or mask (default_mask feature)) features

-- the mask of a glyph that no feature of a range reaches
unfoldable pub global_mask : List PlannedFeature → ℕ
global_mask features = with_defaults (2 ^ 31) features
