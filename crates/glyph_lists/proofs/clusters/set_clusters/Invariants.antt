use Rattle.std.proofs.Common.{◌≡◌}
use Rattle.glyph_lists.specs.Clusters.{with_cluster}
use Rattle.glyph_lists.proofs.MapLemmas.{mapped}
use Rattle.glyph_lists.proofs.clusters.set_clusters.Given as goal

abbrev pub invariant-loop-glyph : goal.invariant-loop-glyph
invariant-loop-glyph l = l.info ≡ mapped (with_cluster l.cluster l.mask) l.glyph-index l.fn.info
