-- A walk from glyph to glyph passes over those that the lookup ignores, one step of its definition each (`SkippingIteratorLemmas`).

pub mod SkippingIteratorLemmas
