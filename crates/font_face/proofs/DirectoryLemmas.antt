-- Why the slots of a directory lead to the first record with a tag.
use Rattle.std.proofs.Common.{ℕ, List, [], ◌≡◌, ◌<◌, ◌≤◌, Bool, true, refl, arith, inl, inr}
use Rattle.std.proofs.lemmas.Bool.{cases_Bool}
use Rattle.font_tables.proofs.RowLemmas.{NoneBelow, first_below-none, first_below-some}
use Rattle.font_tables.specs.Directory.{record_count, record_has, table_of, table_of_record}

-- where a test holds of no number below a slot's, none below a bound that is not above it passes
pub none_before : (test : ℕ → Bool) (slot n : ℕ) → ((row : ℕ) → row < n → test row ≡ true → slot ≤ row) → n ≤ slot → NoneBelow test n
none_before test slot n first within = record {
  fails = λ j less.
      elim (cases_Bool (test j)) [
        | inl passes ↦ let lower : slot ≤ j = first j less passes in absurd (omega arith)
        | inr fails ↦ fails
      ];
}

-- a directory whose slot leads past all records has no such table
pub lacking : (file : List ℕ) (directory tag slot : ℕ)
    → ((row : ℕ) → row < record_count file directory → record_has file directory tag row ≡ true → slot ≤ row)
    → record_count file directory ≤ slot → [] ≡ table_of file directory tag
unfolding table_of
lacking file directory tag slot first past =
    rw (first_below-none (record_has file directory tag) (record_count file directory)
    (none_before (record_has file directory tag) slot (record_count file directory) first past)) refl

-- the record of a slot that has the tag is the first that does
pub table_of_record_found : (file : List ℕ) (directory tag slot : ℕ)
    → ((row : ℕ) → row < record_count file directory → record_has file directory tag row ≡ true → slot ≤ row)
    → slot < record_count file directory → record_has file directory tag slot ≡ true
    → table_of_record file directory slot ≡ table_of file directory tag
unfolding table_of
table_of_record_found file directory tag slot first within has =
    rw (first_below-some (record_has file directory tag) (record_count file directory) slot within has
    (none_before (record_has file directory tag) slot slot (λ row less passes. first row (omega arith) passes) (omega arith))) refl
