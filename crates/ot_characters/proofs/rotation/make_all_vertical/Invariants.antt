use Rattle.std.proofs.Common.{◌≡◌}
use Rattle.glyph_lists.proofs.MapLemmas.{mapped}
use Rattle.ot_characters.specs.Rotation.{upright}
use Rattle.ot_characters.proofs.rotation.make_all_vertical.Given as goal

abbrev pub invariant-loop-info : goal.invariant-loop-info
invariant-loop-info g l = l.infos ≡ mapped (upright (g.F.FontFunctions.has l.font)) l.info-index l.fn.infos
