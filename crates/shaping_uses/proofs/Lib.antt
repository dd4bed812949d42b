-- Why these callers come to what they promise, by the contracts of the library alone.
--
-- A text is pushed into a new buffer (`TextLemmas`), and a short list of calls is followed call by call (`RunsLemmas`):
-- rendered, none of them is refused or asks for memory (`RenderingLemmas`).
-- The invariant of a loop says what came of the glyphs that were read: two of them gave way to one (`LigatureLemmas`), each
-- stands behind its mark (`MarksLemmas`), or its group was counted (`GroupsLemmas`).
-- Texts are compared as glyphs once all of their numbers fit their fields (`ComparingLemmas`).
pub mod TextLemmas
pub mod RunsLemmas
pub mod RenderingLemmas
pub mod LigatureLemmas
pub mod MarksLemmas
pub mod GroupsLemmas
pub mod ComparingLemmas
