-- Rows with one key stand together in a table, behind all rows with a lower key.
use Rattle.std.proofs.Common.{◌≡◌, ℕ, zero, suc, ◌≤◌, Bool, true, false, ◌&&◌, ◌==◌, List, [], ◌∷◌, length}
use Rattle.std.proofs.Common.{get_or, Some, None, take, drop, refl, sym, ◌∙◌, ap, arith}
use Rattle.std.specs.Prelude.{not}
use Rattle.std.specs.Borrow.{Bor}
use Rattle.std.specs.List.{AllWithin}
use Rattle.std.proofs.Math.Numerals.{one-add}
use Rattle.std.specs.List.Sorted.{IsPartitionedBy}
use Rattle.std.specs.Str.{bytes_eq}
use Rattle.std.specs.Ordering.{nat_cmp, is_lt, is_eq, ordering_reverse}
use Rattle.std.specs.Cmp.Lexicographic.{slice_cmp}
use Rattle.std.specs.declared.cmp.Ordering.{Ordering}
use Rattle.std.specs.declared.cmp.Ordering.TheVariants.{Less, Equal, Greater}
use Rattle.std.proofs.lemmas.Cmp.{nat_list_cmp_total}
use Rattle.std.proofs.lemmas.Map.Text.{is_eq-slice_cmp}
use Rattle.rb_common.specs.declared.tag.Tag.{Tag}
use Rattle.rb_text.specs.LanguageTable.{tags_of_key, tags_before_null, front_tags, rows_of, is_below}
use Rattle.rb_text.specs.LanguageTable.{is_followed_by, is_table, rows_with}

abbrev order : List ℕ → List ℕ → Ordering
order = slice_cmp nat_cmp

both : (p q : Bool) → (p && q) ≡ true → (p ≡ true) × (q ≡ true)
both true q h = (refl, h)
both false q h = (h, absurd (cc))

true_false : true ≡ false → ⊥
true_false h = cc

not_true : (b : Bool) → not b ≡ true → b ≡ false
not_true true h = absurd (true_false (sym h))
not_true false h = refl

is_less : (r : Ordering) → is_lt r ≡ true → r ≡ Less
is_less Less h = refl
is_less Equal h = absurd (true_false (sym h))
is_less Greater h = absurd (true_false (sym h))

flipped : (a b : List ℕ) (r : Ordering) → order a b ≡ r → order b a ≡ ordering_reverse r
flipped a b r e = nat_list_cmp_total.antisymm b a ∙ ap ordering_reverse e

-- a key that is not above one below k is below k
pub below_through : (a b k : List ℕ) → is_below b a ≡ false → is_below b k ≡ true → is_below a k ≡ true
below_through a b k low up = by (order b a) refl low
  where
    by : (r : Ordering) → order b a ≡ r → is_lt r ≡ false → is_below a k ≡ true
    by Less e h = absurd (true_false h)
    by Equal e h = rw (← nat_list_cmp_total.congr b a k e) up
    by Greater e h = rw (nat_list_cmp_total.trans a b k (flipped b a Greater e) (is_less _ up)) refl

-- a key that is not below one above k is above k
above_through : (a b k : List ℕ) → is_below b a ≡ false → is_below k a ≡ true → is_below k b ≡ true
above_through a b k low up = by (order b a) refl low
  where
    by : (r : Ordering) → order b a ≡ r → is_lt r ≡ false → is_below k b ≡ true
    by Less e h = absurd (true_false h)
    by Equal e h =
        let same : order a k ≡ order b k = sym (nat_list_cmp_total.congr b a k e) in
        let back : order b k ≡ Greater = sym same ∙ flipped k a Less (is_less _ up) in
        rw (flipped b k Greater back) refl
    by Greater e h = rw (nat_list_cmp_total.trans k a b (is_less _ up) (flipped b a Greater e)) refl

differs : (a k : List ℕ) (r : Ordering) → order a k ≡ r → is_eq r ≡ false → bytes_eq a k ≡ false
differs a k r e h = sym (is_eq-slice_cmp a k) ∙ ap is_eq e ∙ h

below_differs : (a k : List ℕ) → is_below a k ≡ true → bytes_eq a k ≡ false
below_differs a k h = differs a k Less (is_less _ h) refl

above_differs : (a k : List ℕ) → is_below k a ≡ true → bytes_eq a k ≡ false
above_differs a k h = differs a k Greater (flipped k a Less (is_less _ h)) refl

-- behind a row above the key no row has it
none_above : (key : List ℕ) (row : List ℕ × ℕ) (rows : List (List ℕ × ℕ)) → is_table (row ∷ rows) ≡ true
    → is_below key row.0 ≡ true → rows_with key (row ∷ rows) ≡ []
none_above key row [] table up = rw (above_differs row.0 key up) refl
none_above key row (next ∷ rows) table up =
    let parts = both _ _ table in
    let low = (both _ _ parts.0).1 in
    rw (above_differs row.0 key up) (none_above key next rows parts.1
    (above_through row.0 next.0 key (not_true _ low) up))

module _ (key : List ℕ) where
  -- rows in raw form, whose keys are lent
  abbrev pub stands_below : Bor (List ℕ) × Tag → Bool
  stands_below row = is_below row.0.now key

  rest_is_table : (row : Bor (List ℕ) × Tag) (rows : List (Bor (List ℕ) × Tag))
      → is_table (rows_of (row ∷ rows)) ≡ true → is_table (rows_of rows) ≡ true
  rest_is_table row rows table = (both _ _ table).1

  low_next : (row next : Bor (List ℕ) × Tag) (rows : List (Bor (List ℕ) × Tag))
      → is_table (rows_of (row ∷ (next ∷ rows))) ≡ true → is_below next.0.now row.0.now ≡ false
  low_next row next rows table = not_true _ (both _ _ (both _ _ table).0).1

  -- the rows below a key stand in front
  pub low_rows_first : (rows : List (Bor (List ℕ) × Tag)) → is_table (rows_of rows) ≡ true
      → IsPartitionedBy stands_below rows
  low_rows_first [] table i j d before in_range low = absurd (omega arith)
  low_rows_first (row ∷ rows) table zero zero d before in_range low = low
  low_rows_first (row ∷ rows) table (suc i) zero d before in_range low = absurd (omega arith)
  low_rows_first (row ∷ rows) table (suc i) (suc j) d before in_range low =
      low_rows_first rows (rest_is_table row rows table) i j d (omega arith) (omega arith) low
  low_rows_first (row ∷ []) table zero (suc j) d before in_range low = absurd (omega arith)
  low_rows_first (row ∷ (next ∷ rows)) table zero (suc j) d before in_range low =
      below_through row.0.now next.0.now key (low_next row next rows table)
      (low_rows_first (next ∷ rows) (rest_is_table row (next ∷ rows) table) zero j d (omega arith) (omega arith) low)

  -- what a bisection leaves
  pub same_rows : (rows : List (Bor (List ℕ) × Tag)) (i : ℕ) → i ≤ length rows
      → AllWithin (λ row. stands_below row ≡ true) rows 0 i
      → rows_with key (rows_of (drop i rows)) ≡ rows_with key (rows_of rows)
  same_rows rows zero within low = refl
  same_rows [] (suc i) within low = absurd (omega arith)
  same_rows (row ∷ rows) (suc i) within low =
      rw (below_differs row.0.now key (low 0 row (omega arith) (omega arith)))
      (same_rows rows i (omega arith) (λ k d above under. low (suc k) d (omega arith) (omega arith)))

  pub still_table : (rows : List (Bor (List ℕ) × Tag)) (i : ℕ) → is_table (rows_of rows) ≡ true
      → is_table (rows_of (drop i rows)) ≡ true
  still_table rows zero table = table
  still_table [] (suc i) table = refl
  still_table (row ∷ rows) (suc i) table = still_table rows i (rest_is_table row rows table)

  pub none_lower : (rows : List (Bor (List ℕ) × Tag)) (i : ℕ)
      → AllWithin (λ row. stands_below row ≡ false) rows i (length rows)
      → is_followed_by key (rows_of (drop i rows)) ≡ true
  none_lower [] zero high = refl
  none_lower (row ∷ rows) zero high = rw (high 0 row (omega arith) (omega arith)) refl
  none_lower [] (suc i) high = refl
  none_lower (row ∷ rows) (suc i) high =
      none_lower rows i (λ k d above under. high (suc k) d (omega arith) (omega arith))

-- the rows with a key are a front of those that are not below it

same_key : (a k : List ℕ) → bytes_eq a k ≡ true → order a k ≡ Equal
same_key a k h = by (order a k) refl (is_eq-slice_cmp a k ∙ h)
  where
    by : (r : Ordering) → order a k ≡ r → is_eq r ≡ true → order a k ≡ Equal
    by Less e h = absurd (true_false (sym h))
    by Equal e h = e
    by Greater e h = absurd (true_false (sym h))

-- behind a row with the key no row is below it
still_from : (key : List ℕ) (row : List ℕ × ℕ) (rows : List (List ℕ × ℕ)) → is_followed_by row.0 rows ≡ true
    → bytes_eq row.0 key ≡ true → is_followed_by key rows ≡ true
still_from key row [] from h = refl
still_from key row (next ∷ rows) from h =
    let e = nat_list_cmp_total.congr row.0 key next.0 (same_key row.0 key h) in
    let flip = ap ordering_reverse e in
    rw (nat_list_cmp_total.antisymm next.0 key, ← e, ← nat_list_cmp_total.antisymm next.0 row.0) from

-- a row that neither is below the key nor has it is above it
above : (key a : List ℕ) → is_below a key ≡ false → bytes_eq a key ≡ false → is_below key a ≡ true
above key a low h = by (order a key) refl low (is_eq-slice_cmp a key ∙ h)
  where
    by : (r : Ordering) → order a key ≡ r → is_lt r ≡ false → is_eq r ≡ false → is_below key a ≡ true
    by Less e l h = absurd (true_false l)
    by Equal e l h = absurd (true_false h)
    by Greater e l h = rw (flipped a key Greater e) refl

front_by_tag : (key : List ℕ) (row : List ℕ × ℕ) (rows : List (List ℕ × ℕ)) (v : Bool) → (row.1 == 0) ≡ v
    → bytes_eq row.0 key ≡ true → front_tags key rows ≡ tags_before_null (rows_with key rows)
    → front_tags key (row ∷ rows) ≡ tags_before_null (rows_with key (row ∷ rows))
front_by_tag key row rows true t h rest = rw (h, t) refl
front_by_tag key row rows false t h rest = rw (h, t, one-add) (ap (λ l. row.1 ∷ l) rest)

front_by_key : (key : List ℕ) (row : List ℕ × ℕ) (rows : List (List ℕ × ℕ)) (v : Bool) → bytes_eq row.0 key ≡ v
    → is_table (row ∷ rows) ≡ true → is_followed_by key (row ∷ rows) ≡ true
    → (is_followed_by key rows ≡ true → front_tags key rows ≡ tags_before_null (rows_with key rows))
    → front_tags key (row ∷ rows) ≡ tags_before_null (rows_with key (row ∷ rows))
front_by_key key row rows true h table from rest =
    front_by_tag key row rows (row.1 == 0) refl h (rest (still_from key row rows (both _ _ (both _ _ table).0).1 h))
front_by_key key row rows false h table from rest =
    rw (none_above key row rows table (above key row.0 (not_true _ from) h), h) refl

pub front_is_all : (key : List ℕ) (rows : List (List ℕ × ℕ)) → is_table rows ≡ true → is_followed_by key rows ≡ true
    → front_tags key rows ≡ tags_before_null (rows_with key rows)
front_is_all key [] table from = refl
front_is_all key (row ∷ rows) table from =
    front_by_key key row rows (bytes_eq row.0 key) refl table from (front_is_all key rows (both _ _ table).1)

-- where the first row has another key, no row has it
pub none_at_front : (key : List ℕ) (row : List ℕ × ℕ) (rows : List (List ℕ × ℕ)) → is_table (row ∷ rows) ≡ true
    → is_followed_by key (row ∷ rows) ≡ true → bytes_eq row.0 key ≡ false → rows_with key (row ∷ rows) ≡ []
none_at_front key row rows table from h = none_above key row rows table (above key row.0 (not_true _ from) h)

-- what the first of rows that are not below a key says
pub tags_none : (key : List ℕ) (rows : List (Bor (List ℕ) × Tag)) (first : Bor (List ℕ) × Tag) → 1 ≤ length rows
    → is_table (rows_of rows) ≡ true → is_followed_by key (rows_of rows) ≡ true
    → bytes_eq (get_or rows 0 first).0.now key ≡ false → tags_of_key key (rows_of rows) ≡ None
tags_none key [] first some table from h = absurd (omega arith)
tags_none key (row ∷ rows) first some table from h =
    rw (none_at_front key (row.0.now, row.1.0) (rows_of rows) table from h) refl

pub tags_some : (key : List ℕ) (rows : List (Bor (List ℕ) × Tag)) (first : Bor (List ℕ) × Tag) → 1 ≤ length rows
    → is_table (rows_of rows) ≡ true → is_followed_by key (rows_of rows) ≡ true
    → bytes_eq (get_or rows 0 first).0.now key ≡ true
    → tags_of_key key (rows_of rows) ≡ Some (take 3 (front_tags key (rows_of rows)))
tags_some key [] first some table from h = absurd (omega arith)
tags_some key (row ∷ rows) first some table from h =
    rw (front_is_all key (rows_of (row ∷ rows)) table from) (some_front key (row.0.now, row.1.0) (rows_of rows) h)
  where
    some_front : (key : List ℕ) (row : List ℕ × ℕ) (rows : List (List ℕ × ℕ)) → bytes_eq row.0 key ≡ true
        → tags_of_key key (row ∷ rows) ≡ Some (take 3 (tags_before_null (rows_with key (row ∷ rows))))
    some_front key row rows h = rw h refl
