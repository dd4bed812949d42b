use Rattle.std.proofs.Common.{◌≡◌, false}
use Rattle.shaping_buffer.specs.KeepsClusters.{KeepsClusters}
use Rattle.aat_substitution.proofs.substitution.Substitution.apply_chain.Given as goal

abbrev pub invariant-loop-subtable : goal.invariant-loop-subtable
invariant-loop-subtable l = (l.buffer.have_output ≡ false) × KeepsClusters l.fn.buffer l.buffer
