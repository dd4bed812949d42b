use Rattle.std.proofs.Common.{◌≡◌}
use Rattle.aat_substitution.proofs.insertion.add_glyphs.Given as goal

abbrev pub invariant-loop-number : goal.invariant-loop-number
invariant-loop-number l = l.work.budget ≡ l.fn.work.budget
