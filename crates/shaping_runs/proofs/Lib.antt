-- Why a list of calls does what it would with two plain lists, and what no list of calls breaks.
--
-- Calls are made one by one, so `replay` needs one call more at the end of a list (`ReplayLemmas`), and `render` one
-- feature more and one call more that is not refused (`RenderLemmas`).
-- What each call keeps, every list of calls keeps (`Steps`): glyph flags (`FlagSteps`), the order of clusters, cluster
-- numbers and coarse lists (`RunLaws`), the level and the room (`Settings`). A refusal stays too (`Refusals`); it comes
-- exactly where a side would pass the limit (`HeldLemmas`).
-- Memory can run out only where an output is separate and a side outgrows its room: so never while the output stays in
-- place (`SeparateSteps`, `InPlaceSteps`, `InPlaceLaws`), nor while both sides stay within the room (`RoomLaws`).
-- A call exchanges one part of the list for another, and parts of parts are parts: so a glyph disappears only where a
-- call drops it (`PartsLemmas`, `DroppedLemmas`).
-- The rest is said of single calls: what merges, marks and the least cluster come to (`HeadlineLemmas`), what is as it was
-- with three levels (`OldRuns`), and what becomes of the lengths of both sides, for loops of callers (`CallerLaws`).
pub mod ReplayLemmas
pub mod RenderLemmas
pub mod Steps
pub mod FlagSteps
pub mod RunLaws
pub mod Settings
pub mod Refusals
pub mod HeldLemmas
pub mod SeparateSteps
pub mod InPlaceSteps
pub mod InPlaceLaws
pub mod RoomLaws
pub mod PartsLemmas
pub mod DroppedLemmas
pub mod HeadlineLemmas
pub mod OldRuns
pub mod CallerLaws
pub mod Rows
