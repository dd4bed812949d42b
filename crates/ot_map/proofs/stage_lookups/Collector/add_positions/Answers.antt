use Rattle.ot_map.specs.Lookups.{listed_in_positions}
use Rattle.ot_map.proofs.CollectedLemmas.{CollectsBelow-more}
use Rattle.ot_map.proofs.stage_lookups.Collector.add_positions.Goals as goal

pub loop-feature-preserved : goal.loop-feature-preserved
loop-feature-preserved c =
    CollectsBelow-more (listed_in_positions c.args.table.now) c.args.table.now.lists.lookup_count c.loop-feature.feature-index c.args.features.now
    c.feature-item.result c.args.self.now.lookups.items c.loop-feature.self.lookups.items c.add_in_positions.new.self.lookups.items
    c.args.self.now.left c.loop-feature.self.left c.add_in_positions.new.self.left c.loop-feature-test.true c.feature-item.is
    c.loop-feature.invariant c.in_ok-add_in_positions.ensures
