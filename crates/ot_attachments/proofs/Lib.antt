-- Why positioning leaves glyphs and clusters as they are.
--
-- It writes positions, which the list of glyphs does not have (`PositionsLemmas`), and glyph flags, which change masks alone
-- (`FlagLemmas`): so the list keeps its length, its glyphs and its clusters, step by step (`KeptLemmas`). Turned chains keep the number
-- of positions (`ChainLemmas`). In the end each offset is added to that of the glyph that it hangs on (`OffsetsLemmas`). `PlacesLemmas`
-- goes over places one by one.

pub mod ChainLemmas
pub mod FlagLemmas
pub mod KeptLemmas
pub mod OffsetsLemmas
pub mod PlacesLemmas
pub mod PositionsLemmas
