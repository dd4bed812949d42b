use Rattle.glyph_lists.proofs.ReversalLemmas.{IsTurned}
use Rattle.glyph_lists.proofs.reversal.reverse.Given as goal

abbrev pub invariant-loop-i : goal.invariant-loop-i
invariant-loop-i g l = IsTurned l.fn.items l.items l.i
