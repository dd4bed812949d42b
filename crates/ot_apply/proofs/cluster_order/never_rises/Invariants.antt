use Rattle.ot_apply.proofs.CourseLemmas.{FallsBelow}
use Rattle.ot_apply.proofs.cluster_order.never_rises.Given as goal

abbrev pub invariant-loop-place : goal.invariant-loop-place
invariant-loop-place l = FallsBelow l.infos l.place
