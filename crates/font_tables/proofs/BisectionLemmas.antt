-- Bisection: how many steps are allowed makes no difference once they are as many as the rows that are left.
use Rattle.std.proofs.Common.{◌≡◌, ℕ, zero, suc, ◌+◌, ◌≤◌, ◌<◌, true, false, Option, Some, None, refl, sym, arith, inl, inr}
use Rattle.std.proofs.lemmas.Bool.Decides.{nat_tests}
use Rattle.std.proofs.lemmas.Bool.{cases_lt}
use Rattle.std.specs.Prelude.{nat_lt}
use Rattle.std.specs.declared.cmp.Ordering.{Ordering}
use Rattle.std.specs.declared.cmp.Ordering.TheVariants.{Less, Equal, Greater}
use Rattle.font_tables.specs.Bisection.{AreInOrder, bisected, middle, turned}

turned-same : (order : Option Ordering) (low at high : ℕ) (search other : ℕ → ℕ → Option ℕ) → search low at ≡ other low at
    → search (at + 1) high ≡ other (at + 1) high → turned order low at high search ≡ turned order low at high other
turned-same None low at high search other before behind = refl
turned-same (Some Less) low at high search other before behind = before
turned-same (Some Equal) low at high search other before behind = refl
turned-same (Some Greater) low at high search other before behind = behind

-- no row is left
pub bisected-none : (beside : ℕ → Option Ordering) (steps low high : ℕ) → high ≤ low → bisected beside steps low high ≡ None
bisected-none beside zero low high none = refl
bisected-none beside (suc steps) low high none =
    let past : nat_lt low high ≡ false = grind (arith, nat_tests) in rw past refl

pub bisected-enough : (beside : ℕ → Option Ordering) (steps more low high : ℕ) → high ≤ low + steps → high ≤ low + more
    → bisected beside steps low high ≡ bisected beside more low high
bisected-enough beside zero more low high enough also = rw (bisected-none beside more low high (omega arith)) refl
bisected-enough beside (suc steps) zero low high enough also = rw (bisected-none beside (suc steps) low high (omega arith)) refl
bisected-enough beside (suc steps) (suc more) low high enough also =
    elim (cases_lt low high) [
      | inl less ↦
          let here : nat_lt low high ≡ true = grind (arith, nat_tests) in
          let before = bisected-enough beside steps more low (middle low high) (omega arith) (omega arith) in
          let behind = bisected-enough beside steps more (middle low high + 1) high (omega arith) (omega arith) in
          rw here (turned-same (beside (middle low high)) low (middle low high) high (bisected beside steps) (bisected beside more)
          before behind)
      | inr none ↦
          let past : nat_lt low high ≡ false = grind (arith, nat_tests) in
          rw (past) refl
    ]

-- a step of a search over rows that are left
pub bisected-step : (beside : ℕ → Option Ordering) (steps low high : ℕ) → low < high → high ≤ low + steps
    → bisected beside steps low high
    ≡ turned (beside (middle low high)) low (middle low high) high (bisected beside steps)
bisected-step beside zero low high less enough = absurd (omega arith)
bisected-step beside (suc steps) low high less enough =
    let here : nat_lt low high ≡ true = grind (arith, nat_tests) in
    let before = bisected-enough beside steps (suc steps) low (middle low high) (omega arith) (omega arith) in
    let behind = bisected-enough beside steps (suc steps) (middle low high + 1) high (omega arith) (omega arith) in
    rw here (turned-same (beside (middle low high)) low (middle low high) high (bisected beside steps) (bisected beside (suc steps))
    before behind)

-- what a search finds where the key is before the row in the middle, and where it is behind it
pub bisected-before : (beside : ℕ → Option Ordering) (steps low high : ℕ) → low < high → high ≤ low + steps
    → beside (middle low high) ≡ Some Less → bisected beside steps low (middle low high) ≡ bisected beside steps low high
bisected-before beside steps low high less enough is = sym (rw is at (bisected-step beside steps low high less enough))

pub bisected-behind : (beside : ℕ → Option Ordering) (steps low high : ℕ) → low < high → high ≤ low + steps
    → beside (middle low high) ≡ Some Greater
    → bisected beside steps (middle low high + 1) high ≡ bisected beside steps low high
bisected-behind beside steps low high less enough is = sym (rw is at (bisected-step beside steps low high less enough))

-- in order, no row from one behind the key on holds it, and none up to one before it
pub none_from : (beside : ℕ → Option Ordering) (count at : ℕ) → beside at ≡ Some Less → AreInOrder beside count → (row : ℕ)
    → at ≤ row → row < count → beside row ≡ Some Equal → ⊥
none_from beside count at is order row from inside holds = let less = order.less at row from inside is in cc

pub none_up_to : (beside : ℕ → Option Ordering) (count at : ℕ) → at < count → beside at ≡ Some Greater → AreInOrder beside count
    → (row : ℕ) → row < at + 1 → beside row ≡ Some Equal → ⊥
none_up_to beside count at inside is order row up holds =
    let greater = order.greater row at (omega arith) inside is in cc
