-- Why boxes and names of glyphs are those that outlines and charsets give.
--
-- A charset is ranges one after the other: the first that reaches a glyph names it, and a range that is not there ends
-- the list (`CharsetLemmas`). Boxes grow by one point at a time, which is one step of their definition. Of the
-- interpreters of charstrings each operator that draws is proved, and that they end, within the steps they are given. Their
-- numbers are signed, and go through their bits (`SignedLemmas` of `outline_tables`).

pub mod CharsetLemmas
