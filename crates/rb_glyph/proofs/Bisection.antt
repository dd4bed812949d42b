-- A bisection of rows that rise finds what a walk over them finds.
use Rattle.std.proofs.Common.{◌≡◌, ℕ, zero, suc, ◌+◌, ◌<◌, Bool, true, false, ◌&&◌, List, [], ◌∷◌, length, get_or, Some}
use Rattle.std.proofs.Common.{None, Err, refl, sym, ◌∙◌, ap, subst, inl, inr, arith}
use Rattle.std.specs.List.{find, IsAllAdjacentAnswer}
use Rattle.std.specs.List.Sorted.{IsBinarySearchResult, IsNonDecreasingBy}
use Rattle.std.specs.Ordering.{ordering_index, is_eq}
use Rattle.std.specs.declared.cmp.Ordering.{Ordering}
use Rattle.std.specs.declared.cmp.Ordering.TheVariants.{Less, Equal, Greater}
use Rattle.std.proofs.lemmas.Bool.{cases_lt}
use Rattle.rb_glyph.specs.Rows.{rise}
use Rattle.rb_glyph.specs.Search.{IsSearchable}

-- both halves of a test that passes
pub both : (p q : Bool) → (p && q) ≡ true → (p ≡ true) × (q ≡ true)
both true q h = (refl, h)
both false q h = (h, absurd (cc))

and_false : (p q : Bool) → q ≡ false → (p && q) ≡ false
and_false true q h = h
and_false false q h = refl

pub and_true : (p q : Bool) → p ≡ true → q ≡ true → (p && q) ≡ true
and_true true q h k = k
and_true false q h k = h

module _ {R : Type 0} (below : R → R → Bool) where
  -- rows of which each is below the next rise
  each_rises : (rows : List R)
      → ((k : ℕ) (d : R) → k + 1 < length rows → true ≡ below (get_or rows k d) (get_or rows (k + 1) d))
      → rise below rows ≡ true
  each_rises [] each = refl
  each_rises (a ∷ []) each = refl
  each_rises (a ∷ (b ∷ rows)) each =
      and_true _ _ (sym (each 0 a (omega arith)))
      (each_rises (b ∷ rows)
      (λ k d in_range. subst (λ n. true ≡ below (get_or (b ∷ rows) k d) (get_or (a ∷ (b ∷ rows)) n d))
      {x = suc k + 1} {y = suc (k + 1)} (omega arith) (each (suc k) d (omega arith))))

  -- one row that is not below the next breaks the rise
  breaks : (rows : List R) (k : ℕ) → k + 1 < length rows
      → ((d : R) → false ≡ below (get_or rows k d) (get_or rows (k + 1) d)) → rise below rows ≡ false
  breaks [] k in_range broken = absurd (omega arith)
  breaks (a ∷ []) k in_range broken = absurd (omega arith)
  breaks (a ∷ (b ∷ rows)) zero in_range broken = rw (← broken a) refl
  breaks (a ∷ (b ∷ rows)) (suc k) in_range broken =
      and_false (below a b) _
      (breaks (b ∷ rows) k (omega arith)
      (λ d. subst (λ n. false ≡ below (get_or (b ∷ rows) k d) (get_or (a ∷ (b ∷ rows)) n d))
      {x = suc k + 1} {y = suc (k + 1)} (omega arith) (broken d)))

  -- what `is_sorted_by` answers
  pub rise_from_sorted : (rows : List R) (r : Bool) → IsAllAdjacentAnswer (λ x y b. b ≡ below x y) rows r
      → r ≡ rise below rows
  rise_from_sorted rows true each = sym (each_rises rows each)
  rise_from_sorted rows false broken = sym (breaks rows broken.0 broken.1 broken.2)

module _ {R : Type 0} (test : R → Bool) where
  -- the first row that passes is the one that is found
  find_hit : (rows : List R) (at : ℕ) (row : R) → at < length rows → row ≡ get_or rows at row → test row ≡ true
      → ((j : ℕ) (d : R) → j < at → test (get_or rows j d) ≡ false) → find test rows ≡ Some row
  find_hit [] at row in_range is passes before = absurd (omega arith)
  find_hit (x ∷ rows) zero row in_range is passes before = rw (← is, passes) refl
  find_hit (x ∷ rows) (suc at) row in_range is passes before =
      rw (before 0 row (omega arith))
      (find_hit rows at row (omega arith) is passes (λ j d earlier. before (suc j) d (omega arith)))

  -- where no row passes, none is found
  find_miss : (rows : List R) → ((j : ℕ) (d : R) → j < length rows → test (get_or rows j d) ≡ false)
      → find test rows ≡ None
  find_miss [] fails = refl
  find_miss (x ∷ rows) fails =
      rw (fails 0 x (omega arith)) (find_miss rows (λ j d in_range. fails (suc j) d (omega arith)))

-- the same test finds the same row
pub find_same : {R : Type 0} (p q : R → Bool) → ((row : R) → p row ≡ q row) → (rows : List R)
    → find p rows ≡ find q rows
find_same p q same [] = refl
find_same p q same (x ∷ rows) = rw (same x, find_same p q same rows) refl

is_eq_other : (o : Ordering) → (o ≡ Equal → ⊥) → is_eq o ≡ false
is_eq_other Less other = refl
is_eq_other Equal other = absurd (other refl)
is_eq_other Greater other = refl

module _ {R : Type 0} (order : R → Ordering) (rows : List R) (searchable : IsSearchable order rows) where
  rises : IsNonDecreasingBy (λ row. ordering_index (order row)) rows
  rises i j d le in_range = elim (cases_lt i j) [
    | inl before ↦ searchable.climbs i j d before in_range
    | inr same ↦ let e : i ≡ j = omega arith in rw e (omega arith)
  ]

  -- a bisection that ends at a row found the row
  pub found_at : (at : ℕ) (row : R) → at < length rows → ((d : R) → order (get_or rows at d) ≡ Equal)
      → row ≡ get_or rows at row → find (λ x. is_eq (order x)) rows ≡ Some row
  found_at at row in_range equal is =
      let here : order row ≡ Equal = ap order is ∙ equal row in
      find_hit (λ x. is_eq (order x)) rows at row in_range is (ap is_eq here)
      (λ j d before. is_eq_other _ (λ twice. searchable.single j at d before in_range twice (equal d)))

  -- one that ends between rows found that there is none
  pub found_none : (at : ℕ) → IsBinarySearchResult order rows (Err at) → find (λ x. is_eq (order x)) rows ≡ None
  found_none at parted =
      find_miss (λ x. is_eq (order x)) rows (λ j d in_range. is_eq_other _ (λ equal. elim (cases_lt j at) [
        | inl before ↦ let less = (parted rises).0 j d (omega arith) before in cc
        | inr after ↦ let greater = (parted rises).1 j d after in_range in cc
      ]))
