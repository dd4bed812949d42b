-- Why tables are searched as walks would find, and why packed fields keep apart.
--
-- Where rows rise, each is below all later ones (`RisingRows`), so a bisection that ends at a row ends at the only one
-- that fits, and one that ends between two rows shows that none does (`Bisection`). That holds of rows by one
-- character, by a pair, and by a range, since each gives an order that climbs along the rows. A bit field is a quotient
-- and a remainder, whatever shifts and masks read it (`FieldLemmas`), and a run of ones is a difference of powers of
-- two (`FlagLemmas`). A syllable of Hangul is three digits of mixed base, so it is known by its parts (`HangulLemmas`).
-- Categories stand in the order of their numbers (`CategoryLemmas`). `Rows` computes worked examples.

pub mod Bisection
pub mod CategoryLemmas
pub mod FieldLemmas
pub mod FlagLemmas
pub mod HangulLemmas
pub mod RisingRows
pub mod Rows
