use Rattle.std.proofs.Common.{IsTrue, refl, subst, arith, rules}
use Rattle.ot_plan.specs.Plans.{asked}
use Rattle.ot_plan.proofs.AskedLemmas.{map-alike, alike_there}
use Rattle.ot_plan.proofs.shape_plan.are_asked.Goals as goal

pub returns-then-not-is_asked_alike : goal.returns-then-not-is_asked_alike
returns-then-not-is_asked_alike c = (
  λ no. search rules,
  λ e. subst IsTrue c.if-not-is_asked_alike.true (c.is_asked_alike.ensures.1
      (alike_there (asked c.args.plan.now) c.args.one.now c.args.other.now c.loop-place.place c.loop-place-test.true c.if-one-other.false e)),
)

pub returns : goal.returns
returns c = (
  λ _. map-alike (asked c.args.plan.now) c.args.one.now c.args.other.now c.if-one-other.false
      (λ i l. c.loop-place.invariant i (omega arith)),
  λ _. refl,
)
