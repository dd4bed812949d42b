use Rattle.std.proofs.Common.{◌≡◌, ◌+◌, ◌*◌, ◌≤◌, true, false, length}
use Rattle.shaping_uses.proofs.deletion.delete_every_second.Given as goal

-- the output is in place, no call was refused, and one glyph stands for each two that were read
abbrev pub invariant-loop-buffer : goal.invariant-loop-buffer
invariant-loop-buffer l = record {
  opened : l.buffer.have_output ≡ true;
  together : l.buffer.have_separate_output ≡ false;
  near : length l.buffer.out ≤ l.buffer.idx;
  successful : l.buffer.successful ≡ true;
  halved : 2 * length l.buffer.out + length l.buffer.input ≡ length l.fn.buffer.input;
}

abbrev pub decreases-loop-buffer : goal.decreases-loop-buffer
decreases-loop-buffer l = length l.buffer.input
