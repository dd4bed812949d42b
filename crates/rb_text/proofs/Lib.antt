-- Why a feature's text has one reading, and why tags of languages are found.
--
-- The grammar says which texts are features; the code reads from the left. Each part that is cut off is what the
-- grammar takes there (`Cuts`, numbers by `Digits`), the parts one after another are the text again (`Parts`), and so a
-- text reads as what was cut, and as nothing else (`Readings`). A walk along a language finds its first singleton
-- (`LanguageCuts`). In a table the rows of one key stand together, behind all lower keys, so the rows from the first
-- that is not below the key begin with them (`TableRows`). `Rows` computes examples.

pub mod Cuts
pub mod Digits
pub mod LanguageCuts
pub mod Parts
pub mod Readings
mod Rows
pub mod TableRows
