use Rattle.std.proofs.Common.{◌≡◌, IsSome}
use Rattle.ot_positions.proofs.TrackingLemmas.{tracked_before}
use Rattle.ot_positions.proofs.tracking.move_all_apart.Given as goal

-- the glyphs before the place were moved
abbrev pub invariant-loop-i : goal.invariant-loop-i
invariant-loop-i l = record {
  is : l.buffer ≡ tracked_before l.mask l.space l.i l.fn.buffer;
  placed : IsSome l.buffer.positions;
}
