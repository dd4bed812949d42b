-- Why a character has the glyph that its map gives.
--
-- The first subtable of a list of encodings that there is, in their order, is chosen (`First`). Each format computes,
-- over the searches of `font_tables`; a row that lies outside of the table has no number, so it is no row that rises
-- (`Outside`), and the numbers in a list of segments are those of the table (`Lists`). No format gives the glyph 0, which so
-- stands for none (`Numbers`).

pub mod Lists
pub mod Outside
pub mod First
pub mod Numbers
