use Rattle.ot_layout.specs.Budget.{IsNotMore}
use Rattle.ot_substitution.proofs.would.ligature_would.Given as goal

abbrev pub invariant-loop-number : goal.invariant-loop-number
invariant-loop-number l = IsNotMore l.fn.budget l.budget
