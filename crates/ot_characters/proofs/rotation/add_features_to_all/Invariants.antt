use Rattle.std.proofs.Common.{◌≡◌}
use Rattle.glyph_lists.specs.Marks.{with_glyph_flags}
use Rattle.glyph_lists.proofs.MapLemmas.{mapped}
use Rattle.ot_characters.proofs.rotation.add_features_to_all.Given as goal

abbrev pub invariant-loop-info : goal.invariant-loop-info
invariant-loop-info l = l.infos ≡ mapped (with_glyph_flags l.bits) l.info-index l.fn.infos
