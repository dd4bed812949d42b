use Rattle.std.proofs.Common.{◌≡◌}
use Rattle.glyph_lists.specs.Marks.{with_glyph_flags}
use Rattle.glyph_lists.proofs.MapLemmas.{mapped}
use Rattle.ot_apply.proofs.masks.add_mask.Given as goal

abbrev pub invariant-loop-info : goal.invariant-loop-info
invariant-loop-info l = l.infos ≡ mapped (with_glyph_flags l.mask) l.info-index l.fn.infos
