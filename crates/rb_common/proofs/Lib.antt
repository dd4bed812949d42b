-- Why a script's tag gives the script back.
--
-- A tag of four letters is title-cased by two masks. Bit by bit, masks that were applied once change nothing more
-- (`TitleCase`), so the tag of a script reads as that script again. All else computes: tables of scripts and directions
-- are read row by row.

pub mod TitleCase
