use Rattle.glyph_text.proofs.GlyphReadingLemmas.{map-told_of_equal_texts, glyphs_text-equal}
use Rattle.glyph_text.proofs.laws.equal_texts_tell_of_equal_glyphs.Goals as goal

pub returns-clause-tell : goal.returns-clause-tell
returns-clause-tell c = map-told_of_equal_texts

pub returns-clause-alone : goal.returns-clause-alone
returns-clause-alone c = glyphs_text-equal
