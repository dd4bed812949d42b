use Rattle.std.proofs.Common.{◌≡◌, ◌+◌, ◌*◌, ◌≤◌, ◌++◌, true, length}
use Rattle.shaping_uses.specs.Marks.{with_marks}
use Rattle.shaping_uses.proofs.room.put_marks_within_room.Given as goal

-- for each glyph that was read its mark and it were put out, and there is room for those that are left
abbrev pub invariant-loop-buffer : goal.invariant-loop-buffer
invariant-loop-buffer l = record {
  opened : l.buffer.have_output ≡ true;
  successful : l.buffer.successful ≡ true;
  room : 2 * length l.fn.buffer.input ≤ l.buffer.room;
  fits : 2 * length l.fn.buffer.input ≤ l.buffer.max_len;
  put : l.buffer.out ++ with_marks l.mark l.buffer.input ≡ with_marks l.mark l.fn.buffer.input;
  total : length l.buffer.out + 2 * length l.buffer.input ≡ 2 * length l.fn.buffer.input;
}

abbrev pub decreases-loop-buffer : goal.decreases-loop-buffer
decreases-loop-buffer l = length l.buffer.input
