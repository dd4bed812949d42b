use Rattle.ot_plan.specs.Plans.{NoneIsPlanOf}
use Rattle.ot_plan.proofs.kept_plans.place_of.Given as goal

-- the plans so far are for others
abbrev pub invariant-loop-place : goal.invariant-loop-place
invariant-loop-place l = NoneIsPlanOf l.plans l.place l.face l.features l.buffer
