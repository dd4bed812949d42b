use Rattle.std.proofs.Common.{arith, rules, ◌∙◌}
use Rattle.ot_map.specs.Lookups.{by_stage, stage_lists}
use Rattle.ot_map.proofs.CollectedLemmas.{IsInStage-begin, IsInStage-end, IsInStage-next}
use Rattle.ot_map.proofs.stage_lookups.gsub_lookups.Goals as goal

pub loop-stage-init : goal.loop-stage-init
loop-stage-init c =
    IsInStage-begin c.args.table.now (stage_lists c.args.table.now c.args.required_stage c.args.features.now) c.args.pauses.now 35000
    c.new-all.result.left c.new-all.result.lookups.items c.new-stages.result.items c.new-all.ensures.0 (search rules) c.new-all.ensures.1

pub loop-stage-preserved : goal.loop-stage-preserved
loop-stage-preserved c =
    IsInStage-next c.args.table.now (stage_lists c.args.table.now c.args.required_stage c.args.features.now) c.args.pauses.now
    (by_stage c.args.table.now (stage_lists c.args.table.now c.args.required_stage c.args.features.now) 35000 0 c.args.pauses.now)
    c.loop-stage.all.lookups.items c.merge_stage.new.self.lookups.items c.loop-stage.stages.items _ c.loop-stage.all.left
    c.merge_stage.new.self.left c.loop-stage.stage _ _ c.loop-stage-test.true c.in_ok-merge_stage.ensures
    (c.len.ensures ∙ c.merge_stage.new.self.lookups.ok.0) c.in_ok-push.ensures.items c.loop-stage.invariant

pub returns-clause-is : goal.returns-clause-is
returns-clause-is c =
    IsInStage-end c.args.table.now (stage_lists c.args.table.now c.args.required_stage c.args.features.now) c.args.pauses.now _ _ _
    c.loop-stage.all.left c.loop-stage.stage (omega arith) c.loop-stage.invariant
