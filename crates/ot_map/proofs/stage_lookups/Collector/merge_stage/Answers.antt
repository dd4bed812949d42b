use Rattle.std.proofs.Common.{◌≡◌, ◌≤◌, length, arith, ◌∙◌}
use Rattle.ot_map.specs.Lookups.{stage_lists}
use Rattle.ot_map.proofs.CollectedLemmas.{MergesStage-from, longer}
use Rattle.ot_map.proofs.stage_lookups.Collector.merge_stage.Goals as goal

pub returns : goal.returns
returns c =
    let start : c.len-start.result ≡ length c.args.self.now.lookups.items = c.len-start.ensures ∙ c.args.self.now.lookups.ok.0 in
    let more = longer c.args.table.now.lists.lookup_count
    (stage_lists c.args.table.now c.args.required_stage c.args.features.now c.args.stage) c.args.self.now.lookups.items
    c.add_stage.new.self.lookups.items c.args.self.now.left c.add_stage.new.self.left c.in_ok-add_stage.ensures in
    let whole = c.add_stage.new.self.lookups.ok.0 in
    let inside : c.len-start.result ≤ c.add_stage.new.self.lookups.len = omega (arith, start, more, whole) in
    MergesStage-from c.args.table.now (stage_lists c.args.table.now c.args.required_stage c.args.features.now c.args.stage)
    c.args.self.now.lookups.items c.add_stage.new.self.lookups.items c.merge_from.new.self.lookups.items c.args.self.now.left
    c.add_stage.new.self.left c.merge_from.new.self.left c.len-start.result start c.in_ok-add_stage.ensures
    (c.merge_from.ensures.lookups inside) c.merge_from.ensures.left
