use Rattle.ot_apply.proofs.CourseLemmas.{RisesBelow}
use Rattle.ot_apply.proofs.cluster_order.never_falls.Given as goal

abbrev pub invariant-loop-place : goal.invariant-loop-place
invariant-loop-place l = RisesBelow l.infos l.place
