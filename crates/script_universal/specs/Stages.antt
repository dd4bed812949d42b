-- The pauses between the stages of features that Khmer, Myanmar and the universal shaper ask for, in their order.
use Rattle.std.specs.Prelude.{ℕ, ◌++◌, List, [], ◌∷◌, codes}
use Rattle.ot_map.specs.declared.plan.Pause.{Pause}
use Rattle.ot_map.specs.declared.plan.Pause.TheVariants.{Nothing, ClearSubstitutionFlags, SetUpSyllables}
use Rattle.ot_map.specs.declared.plan.Pause.TheVariants.{InitialReordering, RecordRphf, RecordPref}
use Rattle.script_syllables.specs.Stages.{stages_of}

-- the features of Myanmar that have a stage of their own
abbrev pub myanmar_basic : List (List ℕ)
myanmar_basic = codes "rphf" ∷ codes "pref" ∷ codes "blwf" ∷ codes "pstf" ∷ []

-- syllables are found and put in order, and the other features follow the basic ones
abbrev pub khmer_pauses : List Pause
khmer_pauses = SetUpSyllables ∷ InitialReordering ∷ Nothing ∷ []

abbrev pub myanmar_pauses : List Pause
myanmar_pauses = SetUpSyllables ∷ InitialReordering ∷ stages_of myanmar_basic ++ (Nothing ∷ [])

-- it is noted which glyphs `rphf` and `pref` made
abbrev pub universal_pauses_of_records : List Pause
universal_pauses_of_records = ClearSubstitutionFlags ∷ RecordRphf ∷ ClearSubstitutionFlags ∷ RecordPref ∷ []

-- syllables are found, and put in order after the basic features
abbrev pub universal_pauses_of_syllables : List Pause
universal_pauses_of_syllables =
    SetUpSyllables ∷ universal_pauses_of_records ++ (InitialReordering ∷ Nothing ∷ [])

-- and the forms of letters are in a stage behind that
abbrev pub universal_pauses : List Pause
universal_pauses = universal_pauses_of_syllables ++ (Nothing ∷ [])
