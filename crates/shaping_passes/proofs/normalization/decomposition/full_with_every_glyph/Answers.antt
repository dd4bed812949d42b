use Rattle.shaping_passes.proofs.NormalizationCharacterLemmas.{full}
use Rattle.shaping_passes.proofs.normalization.decomposition.full_with_every_glyph.Goals as goal

pub returns : goal.returns
returns c = full
