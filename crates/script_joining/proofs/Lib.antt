-- Why letters join as their types say.
--
-- Forms are given item by item: behind the walk stand forms, before it types, and the form of one item depends on the
-- types of its two neighbours that are not transparent (`FormsLemmas`). Marks of Arabic
-- (`ArabicMarksLemmas`). The flags of places between letters (`FlagsLemmas`).

pub mod ArabicMarksLemmas
pub mod FlagsLemmas
pub mod FormsLemmas
