-- Rows that are pushed in the order of their characters rise, and each is found.
use Rattle.std.proofs.Common.{◌≡◌, ℕ, ◌+◌, ◌<◌, ◌≤◌, Bool, true, false, ◌==◌, nat_lt, List, [], ◌∷◌, ◌++◌}
use Rattle.std.proofs.Common.{Result, Ok, Err, OnErr, Option, Some, None, find, refl, sym, ap, subst, ◌∙◌, arith, inl, inr}
use Rattle.std.specs.List.{list_all}
use Rattle.std.specs.Char.{IsScalar}
use Rattle.std.specs.Option.{option_or}
use Rattle.std.proofs.lemmas.List.Folds.{find-append}
use Rattle.std.proofs.lemmas.Bool.{cases_lt, and_parts, and_from}
use Rattle.std.proofs.lemmas.Bool.Decides.{nat_tests}
use Rattle.rb_glyph.specs.Rows.{rise}

option_or-none : {R : Type 0} (o : Option R) → option_or o None ≡ o
option_or-none None = refl
option_or-none (Some x) = refl

module _ {R : Type 0} (key : R → ℕ) where
  abbrev up : R → R → Bool
  up a b = nat_lt (key a) (key b)

  abbrev low : ℕ → List R → Bool
  low n rows = list_all (λ row. nat_lt (key row) n) rows

  low_raised : (n : ℕ) (rows : List R) → low n rows ≡ true → low (n + 1) rows ≡ true
  low_raised n [] all = refl
  low_raised n (row ∷ rows) all =
      let parts = and_parts (nat_lt (key row) n) (low n rows) all in
      and_from _ _ (grind (arith, nat_tests, parts.0)) (low_raised n rows parts.1)

  low_pushed : (n : ℕ) (rows : List R) (row : R) → low n rows ≡ true → key row ≡ n
      → low (n + 1) (rows ++ row ∷ []) ≡ true
  low_pushed n [] row all here = and_from _ _ (grind (arith, nat_tests)) refl
  low_pushed n (r ∷ rows) row all here =
      let parts = and_parts (nat_lt (key r) n) (low n rows) all in
      and_from _ _ (grind (arith, nat_tests, parts.0)) (low_pushed n rows row parts.1 here)

  rise_pushed : (n : ℕ) (rows : List R) (row : R) → low n rows ≡ true → rise up rows ≡ true → key row ≡ n
      → rise up (rows ++ row ∷ []) ≡ true
  rise_pushed n [] row all rises here = refl
  rise_pushed n (a ∷ []) row all rises here =
      let parts = and_parts (nat_lt (key a) n) true all in
      and_from _ _ (subst (λ k. nat_lt (key a) k ≡ true) (sym here) parts.0) refl
  rise_pushed n (a ∷ (b ∷ rows)) row all rises here =
      let parts = and_parts (nat_lt (key a) n) (low n (b ∷ rows)) all in
      let rest = and_parts (up a b) (rise up (b ∷ rows)) rises in
      and_from _ _ rest.0 (rise_pushed n (b ∷ rows) row parts.1 rest.1 here)

  abbrev at : ℕ → List R → Option R
  at c rows = find (λ row. key row == c) rows

  absent : (n c : ℕ) (rows : List R) → low n rows ≡ true → n ≤ c → at c rows ≡ None
  absent n c [] all above = refl
  absent n c (row ∷ rows) all above =
      let parts = and_parts (nat_lt (key row) n) (low n rows) all in
      let other : (key row == c) ≡ false = grind (arith, nat_tests, parts.0) in
      rw other (absent n c rows parts.1 above)

  module _ (row_of : ℕ → Option R) where
    -- the rows of the characters below n
    pub record AreRowsBelow (n : ℕ) (rows : List R) : Type 0 where
      pub rises : rise up rows ≡ true
      pub all_low : low n rows ≡ true
      pub exact : (c : ℕ) → IsScalar c → c < n → at c rows ≡ row_of c

    -- nothing is pushed where n has no row
    pub rows_kept : (n : ℕ) (rows : List R) → AreRowsBelow n rows → (IsScalar n → row_of n ≡ None)
        → AreRowsBelow (n + 1) rows
    rows_kept n rows are none = record {
      rises = are.rises;
      all_low = low_raised n rows are.all_low;
      exact = λ c is below.
          elim (cases_lt c n) [
            | inl less ↦ are.exact c is less
            | inr from ↦
                let same : c ≡ n = omega arith in
                absent n c rows are.all_low from ∙ sym (subst (λ k. IsScalar k → row_of k ≡ None) (sym same) none is)
          ];
    }

    -- the row of n is pushed
    pub rows_pushed : (n : ℕ) (rows : List R) (row : R) → AreRowsBelow n rows → row_of n ≡ Some row → key row ≡ n
        → AreRowsBelow (n + 1) (rows ++ row ∷ [])
    rows_pushed n rows row are some here = record {
      rises = rise_pushed n rows row are.all_low are.rises here;
      all_low = low_pushed n rows row are.all_low here;
      exact = λ c is below.
          elim (cases_lt c n) [
            | inl less ↦
                let other : (key row == c) ≡ false = grind (arith, nat_tests) in
                let last : at c (row ∷ []) ≡ None = rw other refl in
                find-append _ rows (row ∷ []) ∙ ap (option_or (at c rows)) last
                ∙ option_or-none (at c rows) ∙ are.exact c is less
            | inr from ↦
                let same : c ≡ n = omega arith in
                let this : (key row == c) ≡ true = grind (arith, nat_tests) in
                let last : at c (row ∷ []) ≡ Some row = rw this refl in
                find-append _ rows (row ∷ [])
                ∙ ap (λ o. option_or o (at c (row ∷ []))) (absent n c rows are.all_low from) ∙ last
                ∙ sym (ap row_of same ∙ some)
          ];
    }

-- what holds in any case holds of an error
pub on_err : {T E : Type 0} (r : Result T E) (P : Type 0) → P → OnErr r P
on_err (Ok v) P p = tt
on_err (Err e) P p = p
