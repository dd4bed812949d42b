-- Why marks that move keep the clusters: items move within a range that was merged, so each place keeps its cluster
-- (`MoveLemmas`). What is written over glyphs (`WrittenLemmas`). Properties of characters (`PropertiesLemmas`). Ties (`TiesLemmas`).

pub mod MoveLemmas
pub mod PropertiesLemmas
pub mod TiesLemmas
pub mod WrittenLemmas
