use Rattle.std.proofs.Common.{◌≡◌, false}
use Rattle.shaping_bench.proofs.ranges.unsafe_sliding.Given as goal

abbrev pub invariant-loop-i : goal.invariant-loop-i
invariant-loop-i l = l.buffer.have_output ≡ false
