-- Why the tables are those of the Unicode Character Database.
--
-- The kit knows full decompositions and single compositions. What the parts of one step are is found from these, case
-- by case (`Whole`), and a computation over all rows of the kit shows that it is the mapping of the database (`Found`).
-- Rows are pushed in the order of their characters, so they rise, and each is found again (`Below`). Pairs come by what
-- they compose to, and a map puts them in order: below each number it has the pairs that compose to a lower one
-- (`Pairs`).

pub mod Below
pub mod Found
pub mod Pairs
pub mod Whole
