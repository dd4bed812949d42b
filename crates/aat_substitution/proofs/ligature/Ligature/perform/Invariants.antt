use Rattle.ot_layout.specs.Budget.{IsNotMore}
use Rattle.aat_substitution.specs.Left.{Stays}
use Rattle.aat_substitution.proofs.ligature.Ligature.perform.Given as goal

abbrev pub invariant-loop-turn : goal.invariant-loop-turn
invariant-loop-turn l = Stays l.fn.buffer l.buffer × IsNotMore l.fn.work.budget l.work.budget
