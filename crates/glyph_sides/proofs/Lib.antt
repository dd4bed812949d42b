-- Why each operation on the fields of `Sides` makes its word on the two lists.
--
-- The fields are two vectors and some places in them; `IsStored` says what is always true of these. The view reads the
-- two lists from them: in place the out side is the front of the one vector, up to the gap, and the input what stands
-- behind the cursor; the gap itself and the free front are seen by nobody.
-- So an operation is proved by what it does to the vectors, in `take` and `drop`, and the view of that: `Views` and
-- `FrontLemmas` say what the two lists are after a write at either end, `ShiftLemmas` after blocks of glyphs move,
-- `CopyLemmas` and `CharactersLemmas` after glyphs are written one by one.
-- Without a gap nothing moves but the cursor (`NoGapLemmas`). A merge with no output open is that of the one list
-- (`MergingLemmas`); a replacement is a merge and then copies (`ReplacementLemmas`).
-- What is lent is the front of a vector under a new name, and what is written to it is written back (`Relends`).
pub mod Views
pub mod ShiftLemmas
pub mod NoGapLemmas
pub mod FrontLemmas
pub mod Relends
pub mod CopyLemmas
pub mod MergingLemmas
pub mod ReplacementLemmas
pub mod CharactersLemmas
