use Rattle.std.proofs.Common.{◌≡◌, false}
use Rattle.shaping_bench.proofs.lists.ten_masks.Given as goal

abbrev pub invariant-loop-i : goal.invariant-loop-i
invariant-loop-i l = l.buffer.have_output ≡ false
