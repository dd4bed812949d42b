use Rattle.std.proofs.Common.{take}
use Rattle.std.specs.List.{flat_map}
use Rattle.ot_map.specs.Collecting.{CollectsBelow}
use Rattle.ot_map.specs.Lookups.{listed_in_stage}
use Rattle.ot_map.proofs.stage_lookups.Collector.add_features.Given as goal

abbrev pub invariant-loop-feature : goal.invariant-loop-feature
invariant-loop-feature l =
    CollectsBelow l.table.lists.lookup_count (flat_map (listed_in_stage l.table l.stage) (take l.feature-index l.features))
    l.fn.self.lookups.items l.fn.self.left l.self.lookups.items l.self.left
