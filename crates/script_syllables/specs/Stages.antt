-- The pauses between stages of features.
use Rattle.std.specs.Prelude.{ℕ, List, length, replicate}
use Rattle.ot_map.specs.declared.plan.Pause.{Pause}
use Rattle.ot_map.specs.declared.plan.Pause.TheVariants.{Nothing}

-- each feature in a stage of its own
abbrev pub stages_of : List (List ℕ) → List Pause
stages_of features = replicate (length features) Nothing
