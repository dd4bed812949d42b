use Rattle.std.proofs.Common.{◌≡◌, false}
use Rattle.shaping_buffer.specs.KeepsClusters.{KeepsClusters}
use Rattle.ot_apply.proofs.joined_syllables.keep_joined.Given as goal

abbrev pub invariant-loop-planned : goal.invariant-loop-planned
invariant-loop-planned l = (l.buffer.have_output ≡ false) × KeepsClusters l.fn.buffer l.buffer
