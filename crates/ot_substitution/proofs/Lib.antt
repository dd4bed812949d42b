-- A subtable that is not for the glyph at the cursor has no edit there, so the first edit is that of the subtables that are tried
-- (`EditLemmas`). A reverse substitution asks for glyphs before and after the cursor (`ReverseLemmas`).

pub mod EditLemmas
pub mod ReverseLemmas
