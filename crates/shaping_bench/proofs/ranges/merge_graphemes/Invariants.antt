use Rattle.std.proofs.Common.{◌≡◌, false}
use Rattle.shaping_bench.proofs.ranges.merge_graphemes.Given as goal

abbrev pub invariant-loop-pair : goal.invariant-loop-pair
invariant-loop-pair l = l.buffer.have_output ≡ false
