-- The lookups of a stage of substitution.
use Rattle.std.specs.Prelude.{ℕ, ◌-◌, ◌&&◌, List, nat_eq, nat_le, if◌then◌else◌, option_map, unwrap_or, slice_get}
use Rattle.ot_map.specs.declared.plan.Stage.{Stage}

-- the end of a stage, in the list of all lookups
abbrev pub end_or : ℕ → List Stage → ℕ → ℕ
end_or otherwise stages stage = unwrap_or (option_map (λ found. found.end) (slice_get stages stage)) otherwise

-- a stage begins where the one before it ends
abbrev pub stage_start : List Stage → ℕ → ℕ
stage_start stages stage = if nat_eq stage 0 then 0 else end_or 0 stages (stage - 1)

-- from its start to its end, in the list of so many; nowhere where these are not in order
abbrev pub places_of_stage : List Stage → ℕ → ℕ → ℕ × ℕ
places_of_stage stages count stage =
    if nat_le (stage_start stages stage) (end_or count stages stage) && nat_le (end_or count stages stage) count
    then (stage_start stages stage, end_or count stages stage) else (0, 0)
