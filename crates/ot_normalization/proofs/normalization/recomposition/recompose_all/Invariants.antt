use Rattle.std.proofs.Common.{length}
use Rattle.shaping_buffer.specs.KeepsClusters.{KeepsClusters}
use Rattle.shaping_passes.specs.NormalizationComposition.{IsReady, IsPlace}
use Rattle.ot_normalization.proofs.normalization.recomposition.recompose_all.Given as goal

abbrev pub invariant-loop-starter : goal.invariant-loop-starter
invariant-loop-starter g l = IsReady l.buffer × IsPlace l.starter l.buffer × KeepsClusters l.fn.buffer l.buffer

abbrev pub decreases-loop-starter : goal.decreases-loop-starter
decreases-loop-starter g l = length l.buffer.input
