-- Walks that look for the first place of a tie, and for the last.
use Rattle.std.proofs.Common.{◌≡◌, ℕ, zero, suc, ◌+◌, ◌-◌, ◌<◌, ◌≤◌, true, false, cond, Option, Some, None, inl, inr, refl, sym, ap, ◌∙◌, arith}
use Rattle.std.proofs.lemmas.Bool.{cases_lt, cond-true, cond-false, le-leb, lt-leb, and_from, and_left, and_right}
use Rattle.std.specs.Prelude.{nat_le, ◌&&◌}
use Rattle.script_items.specs.declared.ties.Tie.{Tie}
use Rattle.script_items.specs.Ties.{is_same, found_or, first_of, last_of}

module _ (tie : ℕ → Tie) (wanted : Tie) where
  -- ---- the first

  pub first_of-none : first_of tie wanted 0 ≡ None
  unfolding first_of
  first_of-none = refl

  next : (n : ℕ) → first_of tie wanted (suc n) ≡ found_or (first_of tie wanted n) (is_same (tie n) wanted) n
  unfolding first_of
  next n = refl

  pub first_of-more : (n : ℕ) → first_of tie wanted n ≡ None → is_same (tie n) wanted ≡ false → first_of tie wanted (n + 1) ≡ None
  first_of-more n none fails =
      let one : n + 1 ≡ suc n = omega arith in
      ap (first_of tie wanted) one ∙ next n ∙ ap (λ (o : Option ℕ). found_or o (is_same (tie n) wanted) n) none
      ∙ cond-false (is_same (tie n) wanted) (Some n) None fails

  stays : (found n m : ℕ) → first_of tie wanted n ≡ Some found → n ≤ m → first_of tie wanted m ≡ Some found
  stays found n zero is le =
      let same : 0 ≡ n = omega (arith, le) in
      ap (first_of tie wanted) same ∙ is
  stays found n (suc m) is le = elim (cases_lt m n) [
    | inl lt ↦ let same : suc m ≡ n = omega (arith, le, lt) in
        ap (first_of tie wanted) same ∙ is
    | inr ge ↦ next m ∙ ap (λ (o : Option ℕ). found_or o (is_same (tie m) wanted) m) (stays found n m is ge)
  ]

  pub first_of-found : (n end : ℕ) → n < end → first_of tie wanted n ≡ None → is_same (tie n) wanted ≡ true
      → first_of tie wanted end ≡ Some n
  first_of-found n end within none passes =
      stays n (suc n) end
      (next n ∙ ap (λ (o : Option ℕ). found_or o (is_same (tie n) wanted) n) none
      ∙ cond-true (is_same (tie n) wanted) (Some n) None passes)
      (omega (arith, within))

  -- ---- the last

  module _ (start : ℕ) where
    before : (n : ℕ) → last_of tie wanted start (suc n)
        ≡ cond (nat_le start n && is_same (tie n) wanted) (Some n) (last_of tie wanted start n)
    unfolding last_of
    before n = refl

    pub last_of-none : (n : ℕ) → n ≤ start → last_of tie wanted start n ≡ None
    unfolding last_of
    last_of-none zero le = refl
    last_of-none (suc n) le =
        cond-false _ _ _ (and_left (nat_le start n) (is_same (tie n) wanted) (lt-leb start n (omega (arith, le))))
        ∙ last_of-none n (omega (arith, le))

    pub last_of-found : (n : ℕ) → start < n → is_same (tie (n - 1)) wanted ≡ true → last_of tie wanted start n ≡ Some (n - 1)
    last_of-found n some passes =
        let whole : n ≡ suc (n - 1) = omega (arith, some) in
        ap (last_of tie wanted start) whole ∙ before (n - 1)
        ∙ cond-true _ _ _ (and_from (nat_le start (n - 1)) (is_same (tie (n - 1)) wanted) (le-leb start (n - 1) (omega (arith, some))) passes)

    pub last_of-more : (n : ℕ) → start < n → is_same (tie (n - 1)) wanted ≡ false
        → last_of tie wanted start (n - 1) ≡ last_of tie wanted start n
    last_of-more n some fails =
        let whole : n ≡ suc (n - 1) = omega (arith, some) in
        sym (ap (last_of tie wanted start) whole ∙ before (n - 1)
        ∙ cond-false _ _ _ (and_right (nat_le start (n - 1)) (is_same (tie (n - 1)) wanted) fails))
