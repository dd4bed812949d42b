use Rattle.std.proofs.Common.{◌≡◌, false}
use Rattle.shaping_buffer.specs.KeepsClusters.{KeepsClusters}
use Rattle.script_letters.proofs.thai.private_use.shape_private_use.Given as goal

abbrev pub invariant-loop-i : goal.invariant-loop-i
invariant-loop-i g l = (l.buffer.have_output ≡ false) × KeepsClusters l.fn.buffer l.buffer
