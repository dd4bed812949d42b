use Rattle.std.specs.List.{flat_map}
use Rattle.ot_map.specs.Lookups.{listed_in_stage, required_in}
use Rattle.ot_map.proofs.CollectedLemmas.{CollectsBelow-append}
use Rattle.ot_map.proofs.stage_lookups.Collector.add_stage.Goals as goal

pub returns : goal.returns
returns c =
    CollectsBelow-append c.args.table.now.lists.lookup_count (required_in c.args.table.now c.args.required_stage c.args.stage)
    (flat_map (listed_in_stage c.args.table.now c.args.stage) c.args.features.now) c.args.self.now.lookups.items
    c.add_required_in.new.self.lookups.items c.add_features.new.self.lookups.items c.args.self.now.left c.add_required_in.new.self.left
    c.add_features.new.self.left c.in_ok-add_required_in.ensures c.in_ok-add_features.ensures
