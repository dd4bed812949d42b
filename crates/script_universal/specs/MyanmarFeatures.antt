-- The features that Myanmar asks for, in their stages (OpenType, "Developing OpenType Fonts for Myanmar Script"; HarfBuzz,
-- `collect_features_myanmar`).
use Rattle.std.specs.Prelude.{true, ◌++◌, List, ◌∷◌, map}
use Rattle.ot_map.specs.Asked.{Ask, EndStage, in_stages, of_some}
use Rattle.ot_map.specs.Requests.{over_no_joiner}
use Rattle.ot_map.specs.declared.plan.Pause.TheVariants.{InitialReordering, Nothing, SetUpSyllables}
use Rattle.script_syllables.specs.SyllableFeatures.{letter_features, presentation_names, within_syllable}
use Rattle.script_universal.specs.Stages.{myanmar_basic}

-- syllables are found before all, and put in order before the basic features, each of which has a stage of its own; presentation
-- forms, which do not end with a syllable, are behind a stage that has no feature
abbrev pub myanmar_features : List Ask
myanmar_features =
    EndStage SetUpSyllables ∷ letter_features ++ EndStage InitialReordering
    ∷ in_stages (map (of_some (within_syllable over_no_joiner) true) myanmar_basic)
    ++ EndStage Nothing ∷ map (of_some over_no_joiner true) presentation_names
