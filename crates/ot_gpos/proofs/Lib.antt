-- Why a lookup of `GPOS` does what it means.
--
-- The next glyph of a pair is the one after, where that counts (`PairLemmas`). A lookup does its glyphs in order (`RunsLemmas`), at
-- each of them its subtables (`NestedLemmas`), and a context the records of its rule (`ContextLemmas`). Without contexts one text alone
-- comes of it (`SimpleRows`).

pub mod AttachmentLemmas
pub mod ContextLemmas
pub mod CursiveLemmas
pub mod LookupLemmas
pub mod NestedLemmas
pub mod PairLemmas
pub mod RunsLemmas
pub mod RunsRows
pub mod SimpleRows
