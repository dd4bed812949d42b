use Rattle.std.proofs.Common.{◌≡◌}
use Rattle.glyph_lists.specs.Marks.{with_glyph_flags}
use Rattle.glyph_lists.proofs.MapLemmas.{mapped}
use Rattle.glyph_lists.proofs.glyph_flags.mark_all.Given as goal

abbrev pub invariant-loop-glyph : goal.invariant-loop-glyph
invariant-loop-glyph l = l.info ≡ mapped (with_glyph_flags l.bits) l.glyph-index l.fn.info
