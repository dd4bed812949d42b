-- The features that Khmer asks for, in their stages (OpenType, "Developing OpenType Fonts for Khmer Script"; HarfBuzz,
-- `collect_features_khmer`, `override_features_khmer`).
use Rattle.std.specs.Prelude.{true, false, ◌++◌, List, [], ◌∷◌, codes, map}
use Rattle.ot_map.specs.declared.plan.LayoutPlan.{LayoutPlan}
use Rattle.ot_map.specs.Asked.{Ask, EndStage, disabled, enabled, named, of_some}
use Rattle.ot_map.specs.CommonFeatures.{manual_joiners}
use Rattle.ot_map.specs.Requests.{no_flag}
use Rattle.ot_map.specs.declared.plan.Pause.TheVariants.{InitialReordering, Nothing, SetUpSyllables}
use Rattle.script_syllables.specs.SyllableFeatures.{IsOneMask, letter_features, presentation_names, within_syllable}
use Rattle.script_universal.specs.declared.khmer.plan.KhmerPlan.{KhmerPlan}

-- of the glyphs that the shaper finds; a match ends with its syllable, and passes over neither kind of joiner
abbrev pub khmer_basic : List Ask
khmer_basic =
    map (of_some (within_syllable manual_joiners) false)
    (codes "pref" ∷ codes "blwf" ∷ codes "abvf" ∷ codes "pstf" ∷ codes "cfar" ∷ [])

-- syllables are found and put in order before all; the basic features are in one stage, and presentation forms, which do not end with
-- a syllable, in the stage behind it
abbrev pub khmer_features : List Ask
khmer_features =
    EndStage SetUpSyllables ∷ EndStage InitialReordering ∷ letter_features ++ khmer_basic
    ++ EndStage Nothing ∷ map (of_some manual_joiners true) presentation_names

-- contextual ligatures are required, and standard ones turned off
abbrev pub khmer_overrides : List Ask
khmer_overrides = enabled no_flag (named (codes "clig")) ∷ disabled (named (codes "liga")) ∷ []

-- the masks of those that the shaper gives to glyphs
pub record IsKhmerPlan (layout : LayoutPlan) (plan : KhmerPlan) : Type 0 where
  pub pref : IsOneMask layout (codes "pref") plan.pref
  pub blwf : IsOneMask layout (codes "blwf") plan.blwf
  pub abvf : IsOneMask layout (codes "abvf") plan.abvf
  pub pstf : IsOneMask layout (codes "pstf") plan.pstf
  pub cfar : IsOneMask layout (codes "cfar") plan.cfar
