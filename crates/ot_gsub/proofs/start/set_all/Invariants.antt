use Rattle.std.proofs.Common.{◌≡◌}
use Rattle.glyph_lists.proofs.MapLemmas.{mapped}
use Rattle.ot_gsub.specs.Properties.{started}
use Rattle.ot_gsub.proofs.start.set_all.Given as goal

abbrev pub invariant-loop-glyph : goal.invariant-loop-glyph
invariant-loop-glyph l = l.glyphs ≡ mapped (started l.gdef.table.now) l.glyph-index l.fn.glyphs
