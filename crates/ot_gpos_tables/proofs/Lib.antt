-- Why values, anchors and pairs are those of the tables.
--
-- Readers compute. A record of an advance alone is the number at its place, and a record of nothing behind it has no bytes
-- (`PairLemmas`). Subtables of `kern` are read one after the other, each where the one before it ends (`KernLemmas`). With no variations chosen a correction is that of a device table alone (`CorrectionLemmas`).

pub mod CorrectionLemmas
pub mod EffectLemmas
pub mod KernLemmas
pub mod PairLemmas
pub mod ValueLemmas
