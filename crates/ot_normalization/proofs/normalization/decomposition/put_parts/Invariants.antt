use Rattle.std.proofs.Common.{◌≡◌, ◌<◌, true, length}
use Rattle.shaping_buffer.specs.KeepsClusters.{KeepsClusters}
use Rattle.ot_normalization.proofs.normalization.decomposition.put_parts.Given as goal

abbrev pub invariant-loop-part : goal.invariant-loop-part
invariant-loop-part g l = (l.buffer.have_output ≡ true) × (0 < length l.buffer.input) × KeepsClusters l.fn.buffer l.buffer
