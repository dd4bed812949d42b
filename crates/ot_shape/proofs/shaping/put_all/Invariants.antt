use Rattle.std.proofs.Common.{◌≡◌}
use Rattle.glyph_lists.proofs.MapLemmas.{mapped}
use Rattle.ot_shape.specs.Glyphs.{in_place}
use Rattle.ot_shape.proofs.shaping.put_all.Given as goal

abbrev pub invariant-loop-info : goal.invariant-loop-info
invariant-loop-info l = l.infos ≡ mapped in_place l.info-index l.fn.infos
