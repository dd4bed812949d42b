use Rattle.std.proofs.Common.{◌≡◌}
use Rattle.glyph_lists.specs.Masks.{with_mask}
use Rattle.glyph_lists.proofs.MapLemmas.{mapped}
use Rattle.ot_positions.proofs.cluster_flags.set_masks.Given as goal

abbrev pub invariant-loop-info : goal.invariant-loop-info
invariant-loop-info l = l.infos ≡ mapped (with_mask l.mask) l.info-index l.fn.infos
