use Rattle.std.specs.List.Sorted.{IsNonDecreasingBy}
use Rattle.ot_map.specs.Collecting.{IsMergedTo}
use Rattle.std.proofs.Common.{◌≤◌}
use Rattle.ot_map.proofs.stage_lookups.put_together.Given as goal

abbrev pub invariant-loop-place : goal.invariant-loop-place
invariant-loop-place l = (l.len ≤ l.place) × (IsNonDecreasingBy (λ lookup. lookup.index) l.fn.lookups → IsMergedTo l.fn.lookups l.lookups l.len l.place)
