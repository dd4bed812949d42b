-- Why the clusters run again as they ran, where the glyphs of syllables are put in another order between the stages.
--
-- Each stage is calls of the buffer, or writes beside the clusters, and keeps them. Shapers of syllables may lose the order where
-- nothing is merged: then the numbers stay (`StageLemmas`), and behind the stages each glyph is put into the least cluster from its
-- place on (`RisingLemmas`), the way that the text ran before (`CourseLemmas`). Masks are set before: those of fractions
-- (`FractionLemmas`), and last those of a user's features (`UserFeatureLemmas`).
--
-- Why digests hide nothing: a digest is of the glyphs as they then stand, and a lookup that is for none of them does nothing
-- (`RunLemmas`).

pub mod RisingLemmas
pub mod RunLemmas
pub mod StageLemmas
pub mod CourseLemmas
pub mod FractionLemmas
pub mod UserFeatureLemmas
