use Rattle.ot_contexts.specs.MatchPositions.{AreAll, shrunk_place}
use Rattle.ot_contexts.proofs.match_positions.shrunk.Given as goal

abbrev pub invariant-loop-index : goal.invariant-loop-index
invariant-loop-index l = AreAll (shrunk_place l.places l.number l.removed) l.index l.shrunk.items
