-- Why substitution keeps the buffer's list and clusters.
--
-- Each lookup is calls of the buffer, so what all calls keep is kept (`kept` of `shaping_buffer`); the invariants of
-- the loops say that an output is open and where the cursor is. What is left is of glyphs beside the cursor: the last
-- that was put out is in the cluster of the one that it came from (`BufferLemmas`).

pub mod BufferLemmas
pub mod ChangesLemmas
pub mod EditsLemmas
pub mod ForwardLemmas
pub mod LigaturesLemmas
pub mod NestedLemmas
pub mod Rows
pub mod PutOutLemmas
pub mod ReverseLemmas
pub mod RunsLemmas
pub mod RunsRows
pub mod SingleTurnLemmas
pub mod SinglesLemmas
pub mod StepLemmas
pub mod TurnLemmas
