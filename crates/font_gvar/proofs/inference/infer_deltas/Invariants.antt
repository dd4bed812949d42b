use Rattle.std.proofs.Common.{◌≤◌}
use Rattle.font_gvar.proofs.inference.infer_deltas.Given as goal

-- the contour begins no later than the point
abbrev pub invariant-loop-end : goal.invariant-loop-end
invariant-loop-end l = l.start ≤ l.end
