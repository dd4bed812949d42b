-- Which lookups shapers of syllables ask of (HarfBuzz, `hb_indic_would_substitute_feature_t::init`).
use Rattle.std.specs.Prelude.{ℕ, codes, vec_len}
use Rattle.rb_common.specs.Tag.{tag_of}
use Rattle.ot_map.specs.Plan.{IsReadOf}
use Rattle.ot_map.specs.Stages.{places_of_stage}
use Rattle.ot_map.specs.declared.plan.LayoutPlan.{LayoutPlan}
use Rattle.script_syllables.specs.declared.font.FormFeature.{FormFeature}
use Rattle.script_syllables.specs.declared.font.FormFeature.TheVariants as feature

-- where the lookups of each feature begin and end, in the list of a plan
pub record FeaturePlaces : Type 0 where
  pub rphf : ℕ × ℕ
  pub pref : ℕ × ℕ
  pub blwf : ℕ × ℕ
  pub pstf : ℕ × ℕ
  pub vatu : ℕ × ℕ

abbrev pub places_in : FormFeature → FeaturePlaces → ℕ × ℕ
places_in feature.Rphf forms = forms.rphf
places_in feature.Pref forms = forms.pref
places_in feature.Blwf forms = forms.blwf
places_in feature.Pstf forms = forms.pstf
places_in feature.Vatu forms = forms.vatu

-- all lookups of the stage of a feature; none where the plan does not have it
abbrev pub ArePlacesOf : LayoutPlan → ℕ → ℕ × ℕ → Type 0
ArePlacesOf layout tag places =
    IsReadOf layout.features.items tag (λ f. places_of_stage layout.stages.items (vec_len layout.gsub_lookups) f.stage) (0, 0) places

pub record AreFormsOf (layout : LayoutPlan) (forms : FeaturePlaces) : Type 0 where
  pub rphf : ArePlacesOf layout (tag_of (codes "rphf")) forms.rphf
  pub pref : ArePlacesOf layout (tag_of (codes "pref")) forms.pref
  pub blwf : ArePlacesOf layout (tag_of (codes "blwf")) forms.blwf
  pub pstf : ArePlacesOf layout (tag_of (codes "pstf")) forms.pstf
  pub vatu : ArePlacesOf layout (tag_of (codes "vatu")) forms.vatu
