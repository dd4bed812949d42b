use Rattle.std.proofs.Common.{◌≡◌, ◌≤◌}
use Rattle.ot_attachments.specs.Offsets.{across, down, sum_between}
use Rattle.ot_attachments.proofs.finishing.sum_between.Given as goal

-- the advances up to this place are summed
abbrev pub invariant-loop-place : goal.invariant-loop-place
invariant-loop-place l = record {
  behind : l.from ≤ l.place;
  x : l.x ≡ sum_between l.from l.place (across l.positions);
  y : l.y ≡ sum_between l.from l.place (down l.positions);
}
