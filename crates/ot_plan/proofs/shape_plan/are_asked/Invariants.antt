use Rattle.ot_plan.specs.Plans.{asked}
use Rattle.ot_plan.proofs.AskedLemmas.{AreAlike}
use Rattle.ot_plan.proofs.shape_plan.are_asked.Given as goal

-- the features so far are asked for in the same way
abbrev pub invariant-loop-place : goal.invariant-loop-place
invariant-loop-place l = AreAlike (asked l.plan) l.one l.other l.place
