-- Why glyphs are written as their text, and why equal texts mean equal glyphs.
--
-- A number's digits fit their room and are ASCII (`NumberTextLemmas`). The text grows by one glyph's pieces at its end,
-- which is one step of its definition (`TextLemmas`). Back from the text: where two decimals begin alike and what
-- follows cannot go on with digits, the numbers are equal (`ReadingLemmas`). Each piece of a glyph begins with a sign
-- of its own, so the pieces are told apart one after another, and then the glyphs (`GlyphReadingLemmas`). `Rows`
-- computes examples.

pub mod NumberTextLemmas
pub mod TextLemmas
pub mod ReadingLemmas
pub mod GlyphReadingLemmas
pub mod Rows
