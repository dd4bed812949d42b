-- Why a walk along a text finds its subtags, and a bisection of the registry the row of a code.
--
-- The subtags of a text are the first and those of what stands behind it, so a walk that leaves off one after another asks each
-- (`SubtagLemmas`). In rows whose codes rise, no code on one side of a row is the one that lies on the other (`RegistryLemmas`);
-- the codes of the registry rise. `Rows` computes examples.

pub mod RegistryLemmas
mod Rows
pub mod SubtagLemmas
