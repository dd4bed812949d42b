use Rattle.std.proofs.Common.{◌≡◌}
use Rattle.glyph_lists.specs.Masks.{with_mask}
use Rattle.glyph_lists.proofs.MapLemmas.{mapped}
use Rattle.glyph_lists.proofs.masks.reset_masks.Given as goal

abbrev pub invariant-loop-glyph : goal.invariant-loop-glyph
invariant-loop-glyph l = l.info ≡ mapped (with_mask l.mask) l.glyph-index l.fn.info
