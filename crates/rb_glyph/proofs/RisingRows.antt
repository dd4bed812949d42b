-- Rows that rise may be searched by bisection.
use Rattle.std.proofs.Common.{◌≡◌, ℕ, zero, suc, ◌<◌, ◌≤◌, Bool, true, false, ◌&&◌, ◌||◌, ◌==◌, nat_lt, nat_le, List}
use Rattle.std.proofs.Common.{[], ◌∷◌, length, get_or, Some, is_some, if◌then◌else◌, refl, arith}
use Rattle.std.specs.List.{find, list_any, list_all}
use Rattle.std.specs.Ordering.{ordering_index, nat_cmp, is_eq, ordering_then}
use Rattle.std.specs.declared.cmp.Ordering.{Ordering}
use Rattle.std.specs.declared.cmp.Ordering.TheVariants.{Equal}
use Rattle.std.proofs.lemmas.Bool.Decides.{nat_tests}
use Rattle.rb_glyph.specs.Rows.{rise, is_in, ranges_apart, holds}
use Rattle.rb_glyph.specs.Tables.{pair_lt, pairs_rise}
use Rattle.rb_glyph.specs.Search.{IsSearchable, range_order}
use Rattle.rb_glyph.proofs.Bisection.{both, and_true, find_same}

module _ {R : Type 0} (below : R → R → Bool)
    (joins : (a b c : R) → below a b ≡ true → below b c ≡ true → below a c ≡ true) where
  -- the first row is below each later one
  first_below : (a : R) (rows : List R) → rise below (a ∷ rows) ≡ true → (j : ℕ) (d : R) → j < length rows
      → below a (get_or rows j d) ≡ true
  first_below a [] up j d in_range = absurd (omega arith)
  first_below a (b ∷ rows) up zero d in_range = (both _ _ up).0
  first_below a (b ∷ rows) up (suc j) d in_range =
      joins a b _ (both _ _ up).0 (first_below b rows (both _ _ up).1 j d (omega arith))

  -- each row is below each later one
  far_below : (rows : List R) → rise below rows ≡ true → (i j : ℕ) (d : R) → i < j → j < length rows
      → below (get_or rows i d) (get_or rows j d) ≡ true
  far_below [] up i j d before in_range = absurd (omega arith)
  far_below (a ∷ rows) up i zero d before in_range = absurd (omega arith)
  far_below (a ∷ rows) up zero (suc j) d before in_range = first_below a rows up j d (omega arith)
  far_below (a ∷ []) up (suc i) (suc j) d before in_range = absurd (omega arith)
  far_below (a ∷ (b ∷ rows)) up (suc i) (suc j) d before in_range =
      far_below (b ∷ rows) (both _ _ up).1 i j d (omega arith) (omega arith)

  -- so a bisection serves an order that climbs from each row to those that it is below, and is `Equal` at one alone
  searchable : (order : R → Ordering)
      → ((a b : R) → below a b ≡ true
      → (ordering_index (order a) ≤ ordering_index (order b)) × (order a ≡ Equal → order b ≡ Equal → ⊥))
      → (rows : List R) → rise below rows ≡ true → IsSearchable order rows
  searchable order climb rows up = record {
    climbs = λ i j d before in_range. (climb _ _ (far_below rows up i j d before in_range)).0;
    single = λ i j d before in_range. (climb _ _ (far_below rows up i j d before in_range)).1;
  }

-- keys that are characters

lt_joins : (a b c : ℕ) → nat_lt a b ≡ true → nat_lt b c ≡ true → nat_lt a c ≡ true
lt_joins a b c p q = grind (arith, nat_tests)

lt_climbs : (key a b : ℕ) → nat_lt a b ≡ true
    → (ordering_index (nat_cmp a key) ≤ ordering_index (nat_cmp b key)) ×
    (nat_cmp a key ≡ Equal → nat_cmp b key ≡ Equal → ⊥)
lt_climbs key a b p = (grind (arith, nat_tests), λ q r. grind (arith, nat_tests))

is_eq_cmp : (a key : ℕ) → is_eq (nat_cmp a key) ≡ (a == key)
is_eq_cmp a key = grind (arith, nat_tests)

module _ {R : Type 0} (key : R → ℕ) (asked : ℕ) (rows : List R) where
  pub keys_searchable : rise (λ a b. nat_lt (key a) (key b)) rows ≡ true
      → IsSearchable (λ row. nat_cmp (key row) asked) rows
  keys_searchable up =
      searchable (λ a b. nat_lt (key a) (key b)) (λ a b c. lt_joins (key a) (key b) (key c))
      (λ row. nat_cmp (key row) asked) (λ a b. lt_climbs asked (key a) (key b)) rows up

  pub keys_found : find (λ row. is_eq (nat_cmp (key row) asked)) rows ≡ find (λ row. key row == asked) rows
  keys_found = find_same _ _ (λ row. is_eq_cmp (key row) asked) rows

-- keys that are pairs

-- the order of pairs, as `cmp` has it
abbrev pub pair_cmp : ℕ × ℕ → ℕ × ℕ → Ordering
pair_cmp a b = ordering_then (nat_cmp a.0 b.0) (nat_cmp a.1 b.1)

pair_joins : (a b c : ℕ × ℕ) → pair_lt a b ≡ true → pair_lt b c ≡ true → pair_lt a c ≡ true
pair_joins a b c p q = grind (arith, nat_tests)

pair_climbs : (key a b : ℕ × ℕ) → pair_lt a b ≡ true
    → (ordering_index (pair_cmp a key) ≤ ordering_index (pair_cmp b key)) ×
    (pair_cmp a key ≡ Equal → pair_cmp b key ≡ Equal → ⊥)
pair_climbs key a b p = (grind (arith, nat_tests), λ q r. grind (arith, nat_tests))

is_eq_pair_cmp : (a key : ℕ × ℕ) → is_eq (pair_cmp a key) ≡ (a.0 == key.0 && a.1 == key.1)
is_eq_pair_cmp a key = grind (arith, nat_tests)

module _ (asked : ℕ × ℕ) (rows : List ((ℕ × ℕ) × ℕ)) where
  pub pairs_searchable : pairs_rise rows ≡ true → IsSearchable (λ row. pair_cmp row.0 asked) rows
  pairs_searchable up =
      searchable (λ a b. pair_lt a.0 b.0) (λ a b c. pair_joins a.0 b.0 c.0) (λ row. pair_cmp row.0 asked)
      (λ a b. pair_climbs asked a.0 b.0) rows up

  pub pairs_found : find (λ row. is_eq (pair_cmp row.0 asked)) rows
      ≡ find (λ row. row.0.0 == asked.0 && row.0.1 == asked.1) rows
  pairs_found = find_same _ _ (λ row. is_eq_pair_cmp row.0 asked) rows

-- ranges

-- a range that is not empty, and ends before the next begins
abbrev before_range : ℕ × ℕ → ℕ × ℕ → Bool
before_range a b = nat_le a.0 a.1 && nat_lt a.1 b.0

range_joins : (a b c : ℕ × ℕ) → before_range a b ≡ true → before_range b c ≡ true → before_range a c ≡ true
range_joins a b c p q = grind (arith, nat_tests)

range_climbs : (c : ℕ) (a b : ℕ × ℕ) → before_range a b ≡ true
    → (ordering_index (range_order c a) ≤ ordering_index (range_order c b)) ×
    (range_order c a ≡ Equal → range_order c b ≡ Equal → ⊥)
range_climbs c a b p = (grind (arith, nat_tests), λ q r. grind (arith, nat_tests))

range_is_eq : (c : ℕ) (a : ℕ × ℕ) → is_eq (range_order c a) ≡ is_in c a
range_is_eq c a = grind (arith, nat_tests)

module _ {R : Type 0} (range_of : R → ℕ × ℕ) where
  ranges_rise : (rows : List R) → list_all (λ r. nat_le (range_of r).0 (range_of r).1) rows ≡ true
      → rise (λ a b. nat_lt (range_of a).1 (range_of b).0) rows ≡ true
      → rise (λ a b. before_range (range_of a) (range_of b)) rows ≡ true
  ranges_rise [] full up = refl
  ranges_rise (a ∷ []) full up = refl
  ranges_rise (a ∷ (b ∷ rows)) full up =
      let f = both _ _ full in
      let u = both _ _ up in
      and_true _ _ (and_true _ _ f.0 u.0) (ranges_rise (b ∷ rows) f.1 u.1)

  pub ranges_searchable : (c : ℕ) (rows : List R) → ranges_apart range_of rows ≡ true
      → IsSearchable (λ row. range_order c (range_of row)) rows
  ranges_searchable c rows apart =
      searchable (λ a b. before_range (range_of a) (range_of b))
      (λ a b c. range_joins (range_of a) (range_of b) (range_of c)) (λ row. range_order c (range_of row))
      (λ a b. range_climbs c (range_of a) (range_of b)) rows
      (ranges_rise rows (both _ _ apart).0 (both _ _ apart).1)

  pub ranges_found : (c : ℕ) (rows : List R)
      → find (λ row. is_eq (range_order c (range_of row))) rows ≡ find (λ row. is_in c (range_of row)) rows
  ranges_found c rows = find_same _ _ (λ row. range_is_eq c (range_of row)) rows

any_found : {R : Type 0} (test : R → Bool) (rows : List R) → is_some (find test rows) ≡ list_any test rows
any_found test [] = refl
any_found test (x ∷ rows) =
    elim (test x) as
    (λ t. is_some (if t then Some x else find test rows) ≡
    (t || list_any test rows)) [ true ↦ refl | false ↦ any_found test rows ]

pub range_found : (c : ℕ) (ranges : List (ℕ × ℕ)) → is_some (find (is_in c) ranges) ≡ holds c ranges
unfolding holds
range_found c ranges = any_found _ ranges
