use Rattle.font_tables.proofs.RowLemmas.{NoneBelow}
use Rattle.aat_tables.specs.Tracking.{is_at_least, size_at}
use Rattle.aat_tables.proofs.tracking.size_place.Given as goal

-- the sizes so far are below the one that is asked for
abbrev pub invariant-loop-place : goal.invariant-loop-place
invariant-loop-place l = NoneBelow (λ place. is_at_least l.points (size_at l.sizes place)) l.place
