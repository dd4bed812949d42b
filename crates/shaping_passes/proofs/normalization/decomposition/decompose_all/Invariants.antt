use Rattle.std.proofs.Common.{◌≡◌, length, true}
use Rattle.shaping_passes.proofs.NormalizationDecompositionLemmas.{IsAt}
use Rattle.shaping_passes.proofs.normalization.decomposition.decompose_all.Given as goal

abbrev pub invariant-loop-buffer : goal.invariant-loop-buffer
invariant-loop-buffer g l =
    (l.fn.buffer.successful ≡ true) × IsAt (g.F.FontCharacters.font l.font) l.fn.buffer l.buffer

abbrev pub decreases-loop-buffer : goal.decreases-loop-buffer
decreases-loop-buffer g l = length l.buffer.input
