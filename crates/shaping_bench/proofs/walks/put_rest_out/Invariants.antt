use Rattle.std.proofs.Common.{◌≡◌, true, length}
use Rattle.shaping_bench.proofs.walks.put_rest_out.Given as goal

abbrev pub invariant-loop-buffer : goal.invariant-loop-buffer
invariant-loop-buffer l = l.buffer.have_output ≡ true

abbrev pub decreases-loop-buffer : goal.decreases-loop-buffer
decreases-loop-buffer l = length l.buffer.input
