-- Why the readers of Apple's tables answer what the definitions say.
--
-- A definition says at which byte a number stands, and a reader reads there, so most of them are proved as they stand.
-- One searches: rows of glyphs are bisected (`row_of`). It tests the row that it answers, so that row holds the glyph,
-- whatever the bytes are. That it misses no row needs a premise, that the rows are sorted: no row outside of the two ends of
-- the search holds the glyph. For the row in the middle ends before the glyph, or begins behind it, and then so do all rows
-- on its far side (`RowLemmas`).
-- Lookup tables and the features of a font find their row by this search, and read their values in that row.
pub mod RowLemmas
pub mod MetamorphosisLemmas
