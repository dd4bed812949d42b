-- What shapers of syllables ask for alike (HarfBuzz, `F_PER_SYLLABLE`), and the mask of a feature (`get_1_mask`).
use Rattle.std.specs.Prelude.{ℕ, true, List, [], ◌∷◌, codes, map}
use Rattle.rb_common.specs.Tag.{tag_of}
use Rattle.ot_map.specs.Asked.{Ask, of_some}
use Rattle.ot_map.specs.Masks.{value_in}
use Rattle.ot_map.specs.Plan.{IsReadOf}
use Rattle.ot_map.specs.Requests.{no_flag}
use Rattle.ot_map.specs.declared.plan.LayoutPlan.{LayoutPlan}
use Rattle.ot_map.specs.declared.request.FeatureFlags.{FeatureFlags}

-- a match ends with its syllable
abbrev pub within_syllable : FeatureFlags → FeatureFlags
within_syllable flags = record flags { per_syllable = true }

-- letters by their language, and what they are composed of
abbrev pub letter_features : List Ask
letter_features = map (of_some (within_syllable no_flag) true) (codes "locl" ∷ codes "ccmp" ∷ [])

-- presentation forms
abbrev pub presentation_names : List (List ℕ)
presentation_names = codes "pres" ∷ codes "abvs" ∷ codes "blws" ∷ codes "psts" ∷ []

-- the mask of the value 1 of a feature, or none where the plan does not have it
abbrev pub IsOneMask : LayoutPlan → List ℕ → ℕ → Type 0
IsOneMask layout name mask =
    IsReadOf layout.features.items (tag_of name) (λ f. value_in f.bits.shift f.bits.count 1) 0 mask
