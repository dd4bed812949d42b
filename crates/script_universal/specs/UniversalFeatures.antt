-- The features that scripts of the universal shaper ask for, in their stages (OpenType, "Creating and supporting OpenType fonts for the
-- Universal Shaping Engine"; HarfBuzz, `collect_features_use`).
use Rattle.std.specs.Prelude.{ℕ, Bool, true, false, ◌++◌, List, [], ◌∷◌, codes, map}
use Rattle.ot_map.specs.Asked.{Ask, EndStage, of_some}
use Rattle.ot_map.specs.Requests.{no_flag, over_no_joiner}
use Rattle.ot_map.specs.declared.plan.Pause.TheVariants.{ClearSubstitutionFlags, InitialReordering, Nothing}
use Rattle.ot_map.specs.declared.plan.Pause.TheVariants.{RecordPref, RecordRphf, SetUpSyllables}
use Rattle.script_syllables.specs.SyllableFeatures.{letter_features, within_syllable}

-- a match ends with its syllable, and an input passes over no joiner
abbrev pub of_syllables : Bool → List ℕ → Ask
of_syllables is_global name = of_some (within_syllable over_no_joiner) is_global name

-- "Default glyph pre-processing group"
abbrev pub processing_features : List Ask
processing_features =
    letter_features ++ of_some (within_syllable no_flag) true (codes "nukt") ∷ of_syllables true (codes "akhn") ∷ []

-- "Reordering group": it is noted which glyphs `rphf` and `pref` made, for they are moved
abbrev pub reordering_features : List Ask
reordering_features =
    EndStage ClearSubstitutionFlags ∷ of_syllables false (codes "rphf") ∷ EndStage RecordRphf
    ∷ EndStage ClearSubstitutionFlags ∷ of_syllables true (codes "pref") ∷ EndStage RecordPref ∷ []

-- "Orthographic unit shaping group"
abbrev pub unit_features : List Ask
unit_features =
    map (of_syllables true)
    (codes "rkrf" ∷ codes "abvf" ∷ codes "blwf" ∷ codes "half" ∷ codes "pstf" ∷ codes "vatu" ∷ codes "cjct" ∷ [])

-- syllables are found before all, and put in order behind their features
abbrev pub syllable_features : List Ask
syllable_features =
    EndStage SetUpSyllables ∷ processing_features ++ reordering_features ++ unit_features
    ++ EndStage InitialReordering ∷ EndStage Nothing ∷ []

-- "Topographical features", of the glyphs that the shaper finds: the forms of syllables by where they stand in a word
abbrev pub topographical_features : List Ask
topographical_features = map (of_some no_flag false) (codes "isol" ∷ codes "init" ∷ codes "medi" ∷ codes "fina" ∷ [])

-- "Standard typographic presentation"
abbrev pub presentation_features : List Ask
presentation_features =
    map (of_some over_no_joiner true) (codes "abvs" ∷ codes "blws" ∷ codes "haln" ∷ codes "pres" ∷ codes "psts" ∷ [])

abbrev pub universal_features : List Ask
universal_features = syllable_features ++ topographical_features ++ EndStage Nothing ∷ presentation_features
