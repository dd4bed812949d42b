-- Why each call makes its step, and what all steps keep.
--
-- A call tests what it refuses, and then makes an operation of `Sides`. That operation's word on the two lists is the
-- step's, field by field, so most calls need no proof of their own. The rest is where the two speak otherwise: a cursor
-- that moves back or on (`MoveLemmas`), a scan that is seen from both sides (`ScanLemmas`), a merge with no output open
-- (`MergingLemmas`), a replacement that fits (`ReplacementLemmas`), walks that are calls in turn (`WalkLemmas`,
-- `GroupStepLemmas`).
-- What is kept is shown of steps, not of bodies: what readings and merges keep, each step keeps (`Steps`,
-- `ReadingSteps`), and the least cluster stays while no glyph is dropped (`LeastSteps`). So each call keeps the clusters
-- (`KeepsLemmas`, `ClosedKeepsLemmas`, `GroupKeepsLemmas`).
pub mod Steps
pub mod ReadingSteps
pub mod LeastSteps
pub mod KeepsLemmas
pub mod ClosedKeepsLemmas
pub mod GroupKeepsLemmas
pub mod MoveLemmas
pub mod ScanLemmas
pub mod ReplacementLemmas
pub mod CharactersLemmas
pub mod MergingLemmas
pub mod GroupStepLemmas
pub mod WalkLemmas
pub mod BufferRows
pub mod GroupRows
