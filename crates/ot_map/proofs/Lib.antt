-- Why each feature has a mask of its own, and a plan the lookups of its features.
--
-- A value takes the bits below the next power of two (`MaskLemmas`). Features get their bits one after the other, each
-- from the first free bit on, so what was given before stays below it, and no two share a bit (`AllocationLemmas`).
-- Requests and features stand in the order of their tags, so a bisection finds one, or its place (`OrderLemmas`).
--
-- A request notes the first feature of its tag, so places of a language system are gone through once (`FoundLemmas`,
-- `MapLemmas`). Lookups are listed feature by feature, and stage by stage (`CollectedLemmas`); put in order, they are the
-- same in whatever order they came (`LookupLemmas`), so sorting them and joining neighbours does it (`MergedLemmas`).

pub mod MaskLemmas
pub mod AllocationLemmas
pub mod OrderLemmas
pub mod AskedLemmas
pub mod AskedRows
pub mod MapLemmas
pub mod LookupLemmas
pub mod MergedLemmas
pub mod FoundLemmas
pub mod CollectedLemmas
