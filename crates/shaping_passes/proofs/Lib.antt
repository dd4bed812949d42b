-- Why each pass leaves what its definition over lists says.
--
-- The rules of Hangul are given as relations, and the functions meet them (`NormalizationPartsLemmas`).
-- A character gives way to its parts that a font has (`NormalizationCharacterLemmas`). A decomposition puts out the parts of one
-- after the other: what was put out is the decomposition of what was read (`NormalizationDecompositionLemmas`).
-- The marks of a run are sorted one by one (`NormalizationSortLemmas`), and the runs one after the other
-- (`NormalizationOrderLemmas`). In the buffer a mark is first merged with those that it passes, so that it moves within
-- one cluster and the list stays coarse (`NormalizationGlyphsLemmas`); mark after mark, this leaves the sorted list
-- (`NormalizationMarksLemmas`), and the clusters of both sides are kept (`NormalizationKeepsLemmas`).
-- A pair is composed by calls in place (`NormalizationPairLemmas`). Each turn of the composition keeps what the text is to
-- become (`NormalizationCompositionLemmas`), and what its clusters are to become (`NormalizationMergesLemmas`).
-- A line is measured glyph by glyph, and the ends that are still to come are those of greedy lines from here on
-- (`LinesLemmas`).
pub mod NormalizationPartsLemmas
pub mod NormalizationCharacterLemmas
pub mod NormalizationDecompositionLemmas
pub mod NormalizationSortLemmas
pub mod NormalizationOrderLemmas
pub mod NormalizationGlyphsLemmas
pub mod NormalizationMarksLemmas
pub mod NormalizationKeepsLemmas
pub mod NormalizationPairLemmas
pub mod NormalizationCompositionLemmas
pub mod NormalizationMergesLemmas
pub mod LinesLemmas
mod NormalizationRows
mod LinesRows
