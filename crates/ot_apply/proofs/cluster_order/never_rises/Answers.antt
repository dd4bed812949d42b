use Rattle.std.proofs.Common.{arith}
use Rattle.ot_apply.proofs.CourseLemmas.{falls_below}
use Rattle.ot_apply.proofs.cluster_order.never_rises.Goals as goal

pub returns-clause-yes : goal.returns-clause-yes
returns-clause-yes c = λ yes.
    falls_below c.args.infos.now c.loop-place.place (omega (arith, c.loop-place-test.false)) c.loop-place.invariant
