use Rattle.std.proofs.Common.{◌≡◌, ◌++◌, drop, map}
use Rattle.ot_map.specs.Features.{planned_features, seen}
use Rattle.ot_map.proofs.AllocationLemmas.{IsAllocated}
use Rattle.ot_map.proofs.allocation.planned_features.Given as goal

abbrev pub invariant-loop-request : goal.invariant-loop-request
invariant-loop-request l = record {
  allocated : IsAllocated l.features.items l.next;
  rest : map seen l.features.items ++ planned_features l.next (drop l.request-index l.requests) ≡ planned_features 4 l.requests;
}
