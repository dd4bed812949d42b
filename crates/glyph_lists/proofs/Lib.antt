-- Why the functions over slices compute what the definitions say.
--
-- A walk along a list has done its work up to where it stands, and its invariant says so: `MapLemmas` for what it writes,
-- `RunsLemmas`, `MergeRangeLemmas` and `ScanEndsLemmas` for what it looks for. Each step is one rule of such a word.
-- A merge first finds the least cluster of its range, and where the runs at its ends begin and end. The run merge is the
-- map of that range (`RunMergeLemmas`); of two glyphs mostly one changes. A range on one side, with no run across the
-- seam, is merged there alone (`SeamLemmas`), and a range of both is cut where the one ends (`SidesLemmas`).
-- A scan goes by the least cluster of its parts, and each part is written by itself (`ScansLemmas`).
-- Deletion goes case by case (`DeletionCases`), and a deleting walk is deletions in turn (`DeletingWalkLemmas`).
-- What is about definitions alone stands apart: `MergesLemmas` shows that on monotone clusters the run merge is the
-- merge of all glyphs with these numbers, and `Rows` computes worked examples.
pub mod PartsLemmas
pub mod ReversalLemmas
pub mod ClustersLemmas
pub mod RunsLemmas
pub mod MergesLemmas
pub mod RunMergeLemmas
pub mod MapLemmas
pub mod MergeRangeLemmas
pub mod SidesLemmas
pub mod SeamLemmas
pub mod MergedHeadLemmas
pub mod ScanEndsLemmas
pub mod ScansLemmas
pub mod DeletionCases
pub mod MasksLemmas
pub mod ContextLemmas
pub mod ClusterNumberLemmas
pub mod LengthsLemmas
pub mod GroupsLemmas
pub mod DeletingWalkLemmas
pub mod Rows
