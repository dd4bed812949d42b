use Rattle.std.proofs.Common.{◌-◌, ◌≤◌, length}
use Rattle.ot_normalization.proofs.normalization.decomposition.ready_length.Given as goal

abbrev pub invariant-loop-ready : goal.invariant-loop-ready
invariant-loop-ready l = (l.ready ≤ length l.infos) × (l.ready ≤ l.count)

abbrev pub decreases-loop-ready : goal.decreases-loop-ready
decreases-loop-ready l = length l.infos - l.ready
