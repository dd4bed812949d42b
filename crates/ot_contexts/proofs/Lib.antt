-- Why a context applies exactly where its rules fit.
--
-- A match is walks from glyph to glyph in turn: it grows glyph by glyph, and where fewer do not match, more do not (`MatchLemmas`,
-- `AroundLemmas`). Rules are what their bytes ask (`PatternLemmas`), and the first of a set that fits is found (`RuleSetLemmas`), though
-- the glyphs behind the cursor are looked at once for all of them (`NeighbourLemmas`, `AskedLemmas`). The digests of what may stand
-- after a glyph let most ligatures and contexts be passed over (`SecondsLemmas`, `MissedLemmas`, `ContextLemmas`, `NextLemmas`). A rule
-- that does not fit has looked as far as the first step that led nowhere (`ReachLemmas`, `ReachRows`). The places of a match follow
-- the lookups that are applied to its glyphs (`MatchPositionsLemmas`, `MatchRows`).

pub mod AroundLemmas
pub mod AskedLemmas
pub mod ContextLemmas
pub mod MatchLemmas
pub mod MatchPositionsLemmas
pub mod MatchRows
pub mod MissedLemmas
pub mod NeighbourLemmas
pub mod NextLemmas
pub mod PatternLemmas
pub mod ReachLemmas
pub mod ReachRows
pub mod RuleSetLemmas
pub mod SecondsLemmas
