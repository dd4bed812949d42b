use Rattle.ot_contexts.specs.MatchPositions.{AreAll, grown_place}
use Rattle.ot_contexts.proofs.match_positions.grown.Given as goal

abbrev pub invariant-loop-index : goal.invariant-loop-index
invariant-loop-index l = AreAll (grown_place l.places l.number l.added) l.index l.grown.items
