-- What holds of each plan.
use Rattle.std.specs.Prelude.{◌≡◌, ◌≢◌, ◌≤◌, ℕ, List, Option, Some, None, vec_len, slice_get}
use Rattle.std.specs.Option.{option_map_or}
use Rattle.ot_map.specs.Allocation.{BitsAreApart, BitsAreInside, global_mask}
use Rattle.ot_map.specs.Order.{KeysRise}
use Rattle.ot_map.specs.declared.plan.LayoutPlan.{LayoutPlan}
use Rattle.ot_map.specs.declared.plan.PlannedFeature.{PlannedFeature}

pub record IsPlan (plan : LayoutPlan) : Type 0 where
  -- no two features share a bit of their own
  pub apart : BitsAreApart plan.features.items
  -- nor has one a bit of the glyph flags, or that of every glyph
  pub inside : BitsAreInside plan.features.items
  -- the mask of every glyph has the default value of each feature
  pub global : plan.global_mask ≡ global_mask plan.features.items
  -- the work is bounded, whatever the font
  pub few_substitutions : vec_len plan.gsub_lookups ≤ 35000
  pub few_positions : vec_len plan.gpos_lookups ≤ 35000

-- features in the order of their tags, each tag once
abbrev pub AreInOrder : List PlannedFeature → Type 0
AreInOrder features = KeysRise (λ f. f.tag.0) features

-- a feature with this tag; none only where none of the features has it, if they are in order
abbrev pub IsWithTag : List PlannedFeature → ℕ → Option PlannedFeature → Type 0
IsWithTag features tag None =
    AreInOrder features → (i : ℕ) (f : PlannedFeature) → slice_get features i ≡ Some f → f.tag.0 ≢ tag
IsWithTag features tag (Some f) = (f.tag.0 ≡ tag) × ((i : ℕ) × (slice_get features i ≡ Some f))

-- what is read of a feature with this tag, or what stands for none
abbrev pub IsReadOf : {X : Type 0} → List PlannedFeature → ℕ → (PlannedFeature → X) → X → X → Type 0
IsReadOf features tag read none x =
    (found : Option PlannedFeature) × (IsWithTag features tag found × (x ≡ option_map_or read found none))
