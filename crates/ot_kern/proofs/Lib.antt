-- The next glyph of a pair is the one after, where that counts, or stands before (`KerningLemmas`).

pub mod KerningLemmas
