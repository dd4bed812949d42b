-- Before a Thai vowel AM stand marks above the base, which a walk back finds (`ThaiLemmas`). Jamo that keep their numbers
-- (`HangulLemmas`).

pub mod HangulLemmas
pub mod ThaiLemmas
