use Rattle.std.proofs.Common.{◌≡◌}
use Rattle.glyph_lists.proofs.MapLemmas.{mapped}
use Rattle.shaping_passes.specs.Ignorables.{shown_as}
use Rattle.shaping_passes.proofs.visible.make_invisible.Given as goal

abbrev pub invariant-loop-glyph : goal.invariant-loop-glyph
invariant-loop-glyph l = l.glyphs ≡ mapped (shown_as l.id) l.glyph-index l.fn.glyphs
