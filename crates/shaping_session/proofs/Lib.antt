-- Why the program answers each line of its input with one line.
--
-- The words of a line are read as numbers and names (`WordLemmas`), and a name with its words as a command
-- (`CommandLemmas`; `ReplacementLemmas` for the command with a list of ids).
-- The answer is printed piece by piece (`StateTextLemmas`, `QueryLemmas`), and has no line feed in it (`OneLineLemmas`).
-- The input is cut into lines (`LineLemmas`), which are answered in turn: one line more is one answer more. Where a write
-- fails or memory runs out, a beginning of these answers stands written (`TranscriptLemmas`).
pub mod WordLemmas
pub mod CommandLemmas
pub mod ReplacementLemmas
pub mod StateTextLemmas
pub mod QueryLemmas
pub mod OneLineLemmas
pub mod LineLemmas
pub mod TranscriptLemmas
mod Rows
