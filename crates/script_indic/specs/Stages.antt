-- The pauses between the stages of features that the Indic shaper asks for, in their order.
use Rattle.std.specs.Prelude.{ℕ, ◌++◌, List, [], ◌∷◌, codes}
use Rattle.ot_map.specs.declared.plan.Pause.{Pause}
use Rattle.ot_map.specs.declared.plan.Pause.TheVariants.{SetUpSyllables, InitialReordering, FinalReordering}
use Rattle.script_syllables.specs.Stages.{stages_of}

-- the features of Indic scripts that have a stage of their own, in the order in which OpenType has them applied
abbrev pub indic_basic : List (List ℕ)
indic_basic =
    codes "nukt" ∷ codes "akhn" ∷ codes "rphf" ∷ codes "rkrf" ∷ codes "pref" ∷ codes "blwf" ∷ codes "abvf" ∷ codes "half" ∷
    codes "pstf" ∷ codes "vatu" ∷ codes "cjct" ∷ []

-- syllables are found, and put in order before the basic features and after them
abbrev pub indic_pauses : List Pause
indic_pauses = SetUpSyllables ∷ InitialReordering ∷ stages_of indic_basic ++ (FinalReordering ∷ [])
