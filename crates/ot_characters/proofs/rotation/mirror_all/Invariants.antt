use Rattle.std.proofs.Common.{◌≡◌}
use Rattle.glyph_lists.proofs.MapLemmas.{mapped}
use Rattle.ot_characters.specs.Rotation.{mirrored}
use Rattle.ot_characters.proofs.rotation.mirror_all.Given as goal

abbrev pub invariant-loop-info : goal.invariant-loop-info
invariant-loop-info g l =
    l.infos ≡ mapped (mirrored (g.F.FontFunctions.has l.font) l.mirrors l.rtlm) l.info-index l.fn.infos
