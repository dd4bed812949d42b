-- What is moved and numbered is proved by the lemmas of `script_syllables`. The syllables of a text are flagged in turn (`FlagsLemmas`), and
-- what moves in one leaves the glyphs before it, and items in order (`OrderLemmas`).

pub mod FlagsLemmas
pub mod OrderLemmas
