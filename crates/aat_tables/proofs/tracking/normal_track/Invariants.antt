use Rattle.font_tables.proofs.RowLemmas.{NoneBelow}
use Rattle.aat_tables.specs.Tracking.{is_normal, track_value}
use Rattle.aat_tables.proofs.tracking.normal_track.Given as goal

-- the tracks so far are of other spacings
abbrev pub invariant-loop-track : goal.invariant-loop-track
invariant-loop-track l = NoneBelow (λ track. is_normal (track_value l.tracks track)) l.track
