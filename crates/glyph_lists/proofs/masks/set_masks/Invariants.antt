use Rattle.std.proofs.Common.{◌≡◌}
use Rattle.glyph_lists.proofs.MapLemmas.{mapped}
use Rattle.glyph_lists.proofs.MasksLemmas.{bits_set}
use Rattle.glyph_lists.proofs.masks.set_masks.Given as goal

abbrev pub invariant-loop-glyph : goal.invariant-loop-glyph
invariant-loop-glyph l =
    l.info ≡ mapped (bits_set l.value l.mask l.cluster_start l.cluster_end) l.glyph-index l.fn.info
