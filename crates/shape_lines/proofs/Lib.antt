-- Why the lines of a text are read, and glyphs printed, as is said.
--
-- What is seen of the text is read run by run, each up to a line feed, and so cut into lines (`ReadingLemmas`). What is printed of glyphs
-- is their text or their objects (`AnswerLemmas`).

mod AnswerLemmas
mod ReadingLemmas
