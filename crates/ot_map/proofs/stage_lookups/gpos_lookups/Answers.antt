use Rattle.std.proofs.Common.{◌++◌, arith, ap, ◌∙◌}
use Rattle.std.specs.List.{flat_map}
use Rattle.ot_map.specs.Lookups.{in_order, listed_by_required, listed_in_positions, positions_list, taken}
use Rattle.ot_map.proofs.CollectedLemmas.{CollectsBelow-append}
use Rattle.ot_map.proofs.stage_lookups.gpos_lookups.Goals as goal

pub returns-clause-is : goal.returns-clause-is
returns-clause-is c =
    let all = CollectsBelow-append c.args.table.now.lists.lookup_count (listed_by_required c.args.table.now)
    (flat_map (listed_in_positions c.args.table.now) c.args.features.now) c.new-all.result.lookups.items
    c.add_required.new.self.lookups.items c.add_positions.new.self.lookups.items c.new-all.result.left c.add_required.new.self.left
    c.add_positions.new.self.left c.in_ok-add_required.ensures c.in_ok-add_positions.ensures in
    c.merge_from.ensures.lookups (omega arith)
    ∙ ap in_order
    (all.lookups
    ∙ ap (λ l. l ++ taken c.args.table.now.lists.lookup_count c.new-all.result.left (positions_list c.args.table.now c.args.features.now))
    c.new-all.ensures.0
    ∙ ap (λ n. taken c.args.table.now.lists.lookup_count n (positions_list c.args.table.now c.args.features.now)) c.new-all.ensures.1)
