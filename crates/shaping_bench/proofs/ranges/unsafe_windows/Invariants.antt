use Rattle.std.proofs.Common.{◌≡◌, false}
use Rattle.shaping_bench.proofs.ranges.unsafe_windows.Given as goal

abbrev pub invariant-loop-window : goal.invariant-loop-window
invariant-loop-window l = l.buffer.have_output ≡ false
