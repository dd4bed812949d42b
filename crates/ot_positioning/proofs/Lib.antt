-- Why marks are put around their bases one after the other (`MarkLemmas`).

pub mod MarkLemmas
