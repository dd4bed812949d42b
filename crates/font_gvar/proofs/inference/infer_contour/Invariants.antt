use Rattle.std.proofs.Common.{◌<◌, length}
use Rattle.font_gvar.proofs.inference.infer_contour.Given as goal

-- the point before is one of the contour
abbrev pub invariant-loop-behind : goal.invariant-loop-behind
invariant-loop-behind l = l.before < length l.deltas
