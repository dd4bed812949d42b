use Rattle.aat_substitution.specs.Alike.{AreAlike}
use Rattle.aat_substitution.proofs.rearrangement.is_one_cluster.Given as goal

abbrev pub invariant-loop-place : goal.invariant-loop-place
invariant-loop-place l = AreAlike l.start l.place l.glyphs
