use Rattle.ot_map.specs.Lookups.{by_stage, stage_lists}
use Rattle.ot_map.proofs.CollectedLemmas.{IsInStage}
use Rattle.ot_map.proofs.stage_lookups.gsub_lookups.Given as goal

abbrev pub invariant-loop-stage : goal.invariant-loop-stage
invariant-loop-stage l =
    IsInStage l.table (stage_lists l.table l.required_stage l.features) l.pauses
    (by_stage l.table (stage_lists l.table l.required_stage l.features) 35000 0 l.pauses)
    l.all.lookups.items l.stages.items l.all.left l.stage
