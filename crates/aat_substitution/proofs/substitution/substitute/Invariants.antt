use Rattle.std.proofs.Common.{◌≡◌, false}
use Rattle.shaping_buffer.specs.KeepsClusters.{KeepsClusters}
use Rattle.aat_substitution.proofs.substitution.substitute.Given as goal

abbrev pub invariant-loop-chain : goal.invariant-loop-chain
invariant-loop-chain l = (l.buffer.have_output ≡ false) × KeepsClusters l.fn.buffer l.buffer
