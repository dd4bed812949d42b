-- Why the advances that are kept are the font's own: no advance is kept at first, and one more is the font's (`AdvanceLemmas`).

mod AdvanceLemmas
