-- Why merges, deletions and replacements keep what a text may rely on.
--
-- A list reads another if it drops or repeats some of its glyphs and keeps their order (`ReadingsLemmas`). A call does
-- two things to a list: it merges a range, or it reads. So what both keep, every call keeps.
-- A merge keeps the order of clusters and coarse lists, since it takes all glyphs of some clusters that stand together to
-- the least of these (`OrderLemmas`). Deletion and replacement are a merge that is then read (`DeletionLemmas`,
-- `ReplacementLemmas`), so they keep it as well.
-- In any order of clusters no number is new, and the least stays (`NumbersLemmas`). Flags agree before and after
-- (`GlyphFlagsLemmas`); scans by the ends mark what the mark does where clusters are monotone (`MarksLemmas`). All but
-- clusters and masks stays in every glyph (`CoresLemmas`).
pub mod ReadingsLemmas
pub mod OrderLemmas
pub mod MarksLemmas
pub mod DeletionLemmas
pub mod GlyphFlagsLemmas
pub mod NumbersLemmas
pub mod ReplacementLemmas
pub mod CoresLemmas
