-- Why what is read of lookups is what their tables say: the heads of lookups are those of their list (`LookupTablesLemmas`), a context
-- asks of the next glyph what its coverages say (`NextLemmas`), and each ligature asks for a second glyph that its subtable's digest has
-- (`SecondsLemmas`). A lookup whose digest has no glyph in common with that of a text is for none of its glyphs (`LookupLemmas`).

mod LookupLemmas
mod LookupTablesLemmas
mod NextLemmas
mod SecondsLemmas
