-- The features that Indic scripts ask for, in their stages (OpenType, "Developing OpenType Fonts for Devanagari Script"; HarfBuzz,
-- `collect_features_indic`, `override_features_indic`).
use Rattle.std.specs.Prelude.{◌≡◌, ℕ, Bool, true, false, ◌++◌, List, [], ◌∷◌, codes, map, nat_lt, vec_len}
use Rattle.rb_common.specs.Tag.{tag_of}
use Rattle.ot_map.specs.Asked.{Ask, EndStage, disabled, in_stages, named, of_some}
use Rattle.ot_map.specs.CommonFeatures.{manual_joiners}
use Rattle.ot_map.specs.Plan.{IsReadOf}
use Rattle.ot_map.specs.Stages.{places_of_stage}
use Rattle.ot_map.specs.declared.plan.LayoutPlan.{LayoutPlan}
use Rattle.ot_map.specs.declared.plan.Pause.TheVariants.{FinalReordering, InitialReordering, SetUpSyllables}
use Rattle.script_syllables.specs.SyllableFeatures.{IsOneMask, letter_features, presentation_names, within_syllable}
use Rattle.script_indic.specs.declared.plan.ConsonantForms.{ConsonantForms}
use Rattle.script_indic.specs.declared.plan.IndicMasks.{IndicMasks}

-- of every glyph, or of those that the shaper finds; a match ends with its syllable, and passes over neither kind of joiner
abbrev pub of_all : List ℕ → Ask
of_all name = of_some (within_syllable manual_joiners) true name

abbrev pub of_found : List ℕ → Ask
of_found name = of_some (within_syllable manual_joiners) false name

-- in the order in which OpenType has them applied
abbrev pub basic_features : List Ask
basic_features =
    of_all (codes "nukt") ∷ of_all (codes "akhn") ∷ of_found (codes "rphf") ∷ of_all (codes "rkrf")
    ∷ of_found (codes "pref") ∷ of_found (codes "blwf") ∷ of_found (codes "abvf") ∷ of_found (codes "half")
    ∷ of_found (codes "pstf") ∷ of_all (codes "vatu") ∷ of_all (codes "cjct") ∷ []

-- the forms at the beginning of a word, presentation forms, and those of halants
abbrev pub other_features : List Ask
other_features = of_found (codes "init") ∷ map of_all presentation_names ++ of_all (codes "haln") ∷ []

-- syllables are found before all, and put in order before the basic features, each of which has a stage of its own, and behind them
abbrev pub indic_features : List Ask
indic_features =
    EndStage SetUpSyllables ∷ letter_features ++ EndStage InitialReordering ∷ in_stages basic_features
    ++ EndStage FinalReordering ∷ other_features

-- standard ligatures are turned off
abbrev pub indic_overrides : List Ask
indic_overrides = disabled (named (codes "liga")) ∷ []

-- ---- what a font has of them

pub record AreMasks (layout : LayoutPlan) (masks : IndicMasks) : Type 0 where
  pub rphf : IsOneMask layout (codes "rphf") masks.rphf
  pub pref : IsOneMask layout (codes "pref") masks.pref
  pub blwf : IsOneMask layout (codes "blwf") masks.blwf
  pub abvf : IsOneMask layout (codes "abvf") masks.abvf
  pub half : IsOneMask layout (codes "half") masks.half
  pub pstf : IsOneMask layout (codes "pstf") masks.pstf
  pub init : IsOneMask layout (codes "init") masks.init

-- the stage of a feature has lookups
abbrev pub HasLookups : LayoutPlan → List ℕ → Bool → Type 0
HasLookups layout name has =
    (places : ℕ × ℕ) × (IsReadOf layout.features.items (tag_of name)
    (λ f. places_of_stage layout.stages.items (vec_len layout.gsub_lookups) f.stage) (0, 0) places
    × (has ≡ nat_lt places.0 places.1))

pub record AreForms (layout : LayoutPlan) (forms : ConsonantForms) : Type 0 where
  pub pref : HasLookups layout (codes "pref") forms.pref
  pub blwf : HasLookups layout (codes "blwf") forms.blwf
  pub pstf : HasLookups layout (codes "pstf") forms.pstf
  pub vatu : HasLookups layout (codes "vatu") forms.vatu
