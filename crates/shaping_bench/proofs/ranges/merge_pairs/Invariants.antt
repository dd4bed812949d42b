use Rattle.std.proofs.Common.{◌≡◌, false, length}
use Rattle.shaping_bench.proofs.ranges.merge_pairs.Given as goal

abbrev pub invariant-loop-pair : goal.invariant-loop-pair
invariant-loop-pair l = (l.buffer.have_output ≡ false) × (length l.buffer.input ≡ length l.initial.buffer.input)
