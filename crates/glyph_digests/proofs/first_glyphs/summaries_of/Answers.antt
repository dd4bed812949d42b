use Rattle.glyph_digests.proofs.DigestLemmas.{covered_glyph}
use Rattle.glyph_digests.proofs.first_glyphs.summaries_of.Goals as goal

pub summaries_up_to-requires : goal.summaries_up_to-requires
summaries_up_to-requires c = λ glyph some.
    c.highest.ensures _ glyph c.in-Some.is (covered_glyph c.args.coverage.now.table.now glyph some)
