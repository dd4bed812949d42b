-- The first number below a bound that passes a test, and rows that rise.
use Rattle.std.proofs.Common.{◌≡◌, ℕ, zero, suc, ◌<◌, ◌≤◌, Bool, true, false, Option, Some, None, refl, sym, arith, subst, inl, inr}
use Rattle.std.proofs.lemmas.Bool.{cases_lt, cases_Bool}
use Rattle.std.proofs.lemmas.Grind.{common_steps}
use Rattle.std.specs.Prelude.{nat_le, if◌then◌else◌}
use Rattle.std.specs.Option.{option_or}
use Rattle.font_tables.specs.Rows.{reaches, first_below, first_row, is_at_most, Rises}

-- no number below `n` passes the test
pub record NoneBelow (test : ℕ → Bool) (n : ℕ) : Type 0 where
  pub fails : (j : ℕ) → j < n → test j ≡ false

pub first_below-none : (test : ℕ → Bool) (n : ℕ) → NoneBelow test n → first_below test n ≡ None
first_below-none test zero none = refl
first_below-none test (suc n) none =
    let before = first_below-none test n (record { fails = λ j less. none.fails j (omega arith) }) in
    rw (before, none.fails n (omega arith)) refl

pub first_below-some : (test : ℕ → Bool) (n i : ℕ) → i < n → test i ≡ true → NoneBelow test i
    → first_below test n ≡ Some i
first_below-some test zero i less passes none = absurd (omega arith)
first_below-some test (suc n) i less passes none =
    elim (cases_lt i n) [
      | inl below ↦ rw (first_below-some test n i below passes none) refl
      | inr most ↦
          let here : i ≡ n = omega arith in
          let before = first_below-none test n (record { fails = λ j lower. none.fails j (omega arith) }) in
          let now = subst (λ k. test k ≡ true) here passes in
          rw (before, now, here) refl
    ]

-- a row does not reach a key above its last key
pub not_reached : (last : ℕ → Option ℕ) (key row k : ℕ) → last row ≡ Some k → k < key → reaches last key row ≡ true → ⊥
not_reached last key row k is above reached =
    let here : nat_le key k ≡ true = rw is at reached in
    grind (arith, common_steps)

none-step : (test : ℕ → Bool) (n : ℕ) (before : Option ℕ) → (before ≡ None → NoneBelow test n)
    → option_or before (if test n then Some n else None) ≡ None → NoneBelow test (suc n)
none-step test n None earlier none =
    elim (cases_Bool (test n)) [
      | inl passes ↦ absurd (let some = rw passes at none in grind (arith, common_steps))
      | inr fails ↦
          let rest = earlier refl in
          record {
            fails = λ j less.
                elim (cases_lt j n) [
                  | inl below ↦ rest.fails j below
                  | inr most ↦ let here : j ≡ n = omega arith in subst (λ k. test k ≡ false) (sym here) fails
                ];
          }
    ]
none-step test n (Some i) earlier none = absurd (grind (arith, common_steps))

-- where no number is found, none passes the test
pub none_below : (test : ℕ → Bool) (n : ℕ) → first_below test n ≡ None → NoneBelow test n
none_below test zero none = record { fails = λ j less. absurd (omega arith) }
none_below test (suc n) none = none-step test n (first_below test n) (λ is. none_below test n is) none

-- the number that is found passes the test, and none before it does
pub record IsFirst (test : ℕ → Bool) (n i : ℕ) : Type 0 where
  pub within : i < n
  pub passes : test i ≡ true
  pub before : NoneBelow test i

first-step : (test : ℕ → Bool) (n i : ℕ) (before : Option ℕ) → (before ≡ None → NoneBelow test n)
    → ((j : ℕ) → before ≡ Some j → IsFirst test n j)
    → option_or before (if test n then Some n else None) ≡ Some i → IsFirst test (suc n) i
first-step test n i None none earlier found =
    elim (cases_Bool (test n)) [
      | inl passes ↦
          let same : Some n ≡ Some i = rw passes at found in
          let here : n ≡ i = grind (arith, common_steps) in
          record {
            within = omega arith;
            passes = subst (λ k. test k ≡ true) here passes;
            before = subst (λ k. NoneBelow test k) here (none refl);
          }
      | inr fails ↦
          let no = rw fails at found in
          absurd (grind (arith, common_steps))
    ]
first-step test n i (Some j) none earlier found =
    let same : j ≡ i = grind (arith, common_steps) in
    let it = earlier j refl in
    record {
      within = let less : j < n = it.within in omega arith;
      passes = subst (λ k. test k ≡ true) same it.passes;
      before = subst (λ k. NoneBelow test k) same it.before;
    }

pub is_first : (test : ℕ → Bool) (n i : ℕ) → first_below test n ≡ Some i → IsFirst test n i
is_first test zero i found = absurd (grind (arith, common_steps))
is_first test (suc n) i found =
    first-step test n i (first_below test n) (λ is. none_below test n is) (λ j is. is_first test n j is) found

-- a row that does not reach a key reaches none above it
is_at_most-higher : (key other : ℕ) (last : Option ℕ) → key ≤ other → is_at_most key last ≡ false
    → is_at_most other last ≡ false
is_at_most-higher key other None order fails = refl
is_at_most-higher key other (Some k) order fails = grind (arith, common_steps)

none_higher : (last : ℕ → Option ℕ) (key other row : ℕ) → key ≤ other → NoneBelow (reaches last key) row
    → NoneBelow (reaches last other) row
none_higher last key other row order none = record {
  fails = λ j less. is_at_most-higher key other (last j) order (none.fails j less);
}

-- the first row that reaches a key is the first for each higher key that it reaches
pub first_row-higher : (last : ℕ → Option ℕ) (key other count row : ℕ) → key ≤ other
    → first_row last key count ≡ Some row → reaches last other row ≡ true → first_row last other count ≡ Some row
first_row-higher last key other count row order is reached =
    let it = is_first (reaches last key) count row is in
    first_below-some (reaches last other) count row it.within reached (none_higher last key other row order it.before)

pub first_row-none_higher : (last : ℕ → Option ℕ) (key other count : ℕ) → key ≤ other
    → first_row last key count ≡ None → first_row last other count ≡ None
first_row-none_higher last key other count order is =
    first_below-none (reaches last other) count
    (none_higher last key other count order (none_below (reaches last key) count is))

-- rows that rise, and reach no key above one
pub record RisesTo (last : ℕ → Option ℕ) (row before : ℕ) : Type 0 where
  pub rise : Rises last row
  pub most : (i key : ℕ) → i < row → reaches last key i ≡ true → key ≤ before
