-- Why a digest says no only where no glyph is covered: glyphs that share a row share a bit, and each glyph of a coverage stands in a
-- row of the digest (`DigestLemmas`). The first 256 glyphs have a bit each (`FirstGlyphsLemmas`), and none of them is listed behind
-- one of the others (`EarlyLemmas`).

pub mod DigestLemmas
mod EarlyLemmas
mod FirstGlyphsLemmas
