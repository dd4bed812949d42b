use Rattle.std.proofs.Common.{◌≡◌, if◌then◌else◌}
use Rattle.std.specs.Prelude.{◌==◌}
use Rattle.rb_glyph.specs.declared.info.hb_glyph_info_t.{hb_glyph_info_t}
use Rattle.glyph_lists.specs.Marks.{with_glyph_flags}
use Rattle.glyph_lists.proofs.MapLemmas.{mapped}
use Rattle.glyph_lists.proofs.glyph_flags.mark_others.Given as goal

abbrev pub invariant-loop-glyph : goal.invariant-loop-glyph
invariant-loop-glyph l =
    l.info ≡ mapped (λ (g : hb_glyph_info_t). if g.cluster == l.cluster then g else with_glyph_flags l.bits g)
    l.glyph-index l.fn.info
