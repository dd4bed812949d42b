-- Why the subtables of a font keep the clusters of a text.
--
-- A subtable changes a buffer by its public calls alone. Each of these says that it keeps the clusters, and the search puts
-- them together (`kept` of the buffer). So a walk keeps three things from turn to turn: the clusters, whether an output is
-- open, and that the budget does not grow.
-- What is written into glyphs in place does not touch their clusters, so the list has those that it had (`keeps_with_input`).
-- A range is turned only where its glyphs are in one cluster, or clusters may stand in any order, which is tested before
-- (`ClusterLemmas`).
-- A subtable that goes over the glyphs from the last one on has the text turned before and after: what keeps the clusters
-- of the turned text keeps those of the text (`TurnLemmas`). So does each chain then, and the whole table.
-- Glyphs that are put in are put out one after the other, up to the first that is refused (`InsertionLemmas`).
pub mod ClusterLemmas
pub mod InsertionLemmas
pub mod TurnLemmas
