use Rattle.std.proofs.Common.{◌≡◌, false, length}
use Rattle.shaping_bench.proofs.ranges.merge_sliding.Given as goal

abbrev pub invariant-loop-i : goal.invariant-loop-i
invariant-loop-i l = (l.buffer.have_output ≡ false) × (length l.buffer.input ≡ length l.initial.buffer.input)
