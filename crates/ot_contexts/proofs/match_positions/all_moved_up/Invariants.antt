use Rattle.std.specs.Prelude.{slice_index}
use Rattle.ot_contexts.specs.MatchPositions.{AreAll, moved_up}
use Rattle.ot_contexts.proofs.match_positions.all_moved_up.Given as goal

abbrev pub invariant-loop-index : goal.invariant-loop-index
invariant-loop-index l = AreAll (λ k. moved_up (slice_index l.places k) l.by) l.index l.moved.items
