use Rattle.glyph_digests.proofs.FirstGlyphsLemmas.{may_have_first-kept}
use Rattle.glyph_digests.proofs.first_glyphs.FirstGlyphs.add_all.Goals as goal

pub returns-clause-added : goal.returns-clause-added
returns-clause-added c = λ g.
    may_have_first-kept c.args.other.now _ _ _ _ g c.with_all.ensures.added c.with_all-2.ensures.added
    c.with_all-3.ensures.added c.with_all-4.ensures.added

pub returns-clause-kept : goal.returns-clause-kept
returns-clause-kept c = λ g.
    may_have_first-kept c.args.self.now _ _ _ _ g c.with_all.ensures.kept c.with_all-2.ensures.kept
    c.with_all-3.ensures.kept c.with_all-4.ensures.kept
