use Rattle.ot_layout.specs.Budget.{IsNotMore}
use Rattle.ot_substitution.proofs.would.would_substitute.Given as goal

abbrev pub invariant-loop-subtable : goal.invariant-loop-subtable
invariant-loop-subtable l = IsNotMore l.fn.budget l.budget
