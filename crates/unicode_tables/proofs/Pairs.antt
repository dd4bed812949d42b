-- The pairs below a number that compose, as they come one by one.
use Rattle.std.proofs.Common.{◌≡◌, ◌≢◌, ℕ, ◌+◌, ◌<◌, Bool, true, false, cond, ◌&&◌, ◌==◌, nat_eq, nat_lt, List, [], ◌∷◌}
use Rattle.std.proofs.Common.{Option, Some, None, find, option_map, if◌then◌else◌, refl, sym, ap, ap₂, ◌∙◌}
use Rattle.std.proofs.Common.{arith, inl, inr, length, IsSome}
use Rattle.std.proofs.Common.{eqb-true, eq-eqb, lt-ltb}
use lib.Utf8.{scalar, scalar_cases}
use Rattle.std.specs.BTreeMap.{is_at}
use Rattle.std.specs.List.Sorted.{IsStrictlySortedBy}
use Rattle.std.specs.Map.{lookup, keys_of}
use Rattle.std.specs.Option.{option_eq}
use Rattle.std.specs.Ordering.{is_eq}
use Rattle.std.specs.declared.cmp.Ordering.TheVariants.{Less}
use Rattle.std.proofs.lemmas.Bool.{cases_Bool, cond-true, cond-false, and_from}
use Rattle.std.proofs.lemmas.Bool.Decides.{nat_tests}
use Rattle.std.proofs.lemmas.Map.Entries.{option_filter}
use Rattle.rb_glyph.specs.Tables.{pair_lt, pairs_rise, composition_of}
use Rattle.rb_glyph.proofs.RisingRows.{pair_cmp}
use Rattle.ucd_normal.specs.Composition.{composite}
use Rattle.ucd_normal.specs.Decomposition.{canonical_mapping}
use Rattle.ucd_normal.proofs.CompositionLemmas.{is_empty, composite-IsCompositeOf}
use Rattle.unicode_tables.specs.Mapping.{parts_of}
use Rattle.unicode_tables.specs.Rows.{composed_parts, pair_of}
use Rattle.unicode_tables.proofs.Found.{scalar_if_mapped}

some_value : (x c : ℕ) → Some x ≡ Some c → x ≡ c
some_value x c h = cc

same_as_some : (o : Option ℕ) (c : ℕ) → o ≡ Some c → option_eq nat_eq o (Some c) ≡ true
same_as_some None c h = cc
same_as_some (Some x) c h = eq-eqb x c (some_value x c h)

some_same : (o : Option ℕ) (c : ℕ) → option_eq nat_eq o (Some c) ≡ true → o ≡ Some c
some_same None c h = cc
some_same (Some x) c h = ap Some (eqb-true x c h)

abbrev if_pair : Bool → ℕ → ℕ → Option (ℕ × ℕ)
if_pair t x y = if t then Some (x, y) else None

-- a pair that composes to c is the one that c has
pub pair_of_composite : (a b c : ℕ) → composite a b ≡ Some c → pair_of c ≡ Some (a, b)
pair_of_composite a b c h =
    ap (composed_parts c) (ap parts_of (composite-IsCompositeOf a b c h).mapping)
    ∙ ap (λ t. if_pair t a b) (same_as_some (composite a b) c h)

some_pair : (x y : ℕ × ℕ) → Some x ≡ Some y → x ≡ y
some_pair x y h = cc

chosen : (t : Bool) (x y a b : ℕ) → if_pair t x y ≡ Some (a, b) → (t ≡ true) × (x ≡ a) × (y ≡ b)
chosen true x y a b h =
    let e = some_pair (x, y) (a, b) h in (refl, ap (λ (p : ℕ × ℕ). p.0) e, ap (λ (p : ℕ × ℕ). p.1) e)
chosen false x y a b h = cc

composite_of_parts : (a b c : ℕ) (o : Option (ℕ × Option ℕ)) → composed_parts c o ≡ Some (a, b) → composite a b ≡ Some c
composite_of_parts a b c None h = cc
composite_of_parts a b c (Some (x, None)) h = cc
composite_of_parts a b c (Some (x, Some y)) h =
    let is = chosen (option_eq nat_eq (composite x y) (Some c)) x y a b h in
    ap₂ composite (sym is.1) (sym is.2) ∙ some_same (composite x y) c is.0

-- and the other way round
pub composite_of_pair : (a b c : ℕ) → pair_of c ≡ Some (a, b) → composite a b ≡ Some c
composite_of_pair a b c h = composite_of_parts a b c (parts_of (canonical_mapping c)) h

abbrev if_some : Bool → ℕ → Option ℕ
if_some t p = cond t (Some p) None

-- the composite, if it is below n
abbrev pub below : ℕ → Option ℕ → Option ℕ
below n o = option_filter (λ p. nat_lt p n) o

-- nothing is added at n where the composite is not n
pub below_kept : (n : ℕ) (o : Option ℕ) → (o ≡ Some n → ⊥) → below (n + 1) o ≡ below n o
below_kept n None other = refl
below_kept n (Some p) other =
    let apart : p ≢ n = λ e. other (ap Some e) in
    let same : nat_lt p (n + 1) ≡ nat_lt p n = grind (arith, nat_tests, apart) in
    ap (λ t. if_some t p) same

below_added : (n : ℕ) (o : Option ℕ) → o ≡ Some n → below (n + 1) o ≡ Some n
below_added n o is =
    let low : nat_lt n (n + 1) ≡ true = grind (arith, nat_tests) in ap (below (n + 1)) is ∙ ap (λ t. if_some t n) low

is_eq_pair : (x a : ℕ × ℕ) → is_eq (pair_cmp x a) ≡ true → x ≡ a
is_eq_pair x a h =
    let first : x.0 ≡ a.0 = grind (arith, nat_tests, h) in
    let second : x.1 ≡ a.1 = grind (arith, nat_tests, h) in
    ap₂ (λ (u v : ℕ). (u, v)) first second

is_eq_itself : (x : ℕ × ℕ) → is_eq (pair_cmp x x) ≡ true
is_eq_itself x = grind (arith, nat_tests)

-- what the map has at a pair after the pair of n was put in
pub cond-below : (n a b : ℕ) (x : ℕ × ℕ) (old : Option ℕ) → pair_of n ≡ Some x → old ≡ below n (composite a b)
    → cond (is_eq (pair_cmp x (a, b))) (Some n) old ≡ below (n + 1) (composite a b)
cond-below n a b x old is was =
    elim (cases_Bool (is_eq (pair_cmp x (a, b)))) [
      | inl here ↦
          let this = composite_of_pair a b n (is ∙ ap Some (is_eq_pair x (a, b) here)) in
          cond-true _ _ _ here ∙ sym (below_added n (composite a b) this)
      | inr apart ↦
          let other : composite a b ≡ Some n → ⊥ =
          λ h.
          let same : x ≡ (a, b) = some_pair x (a, b) (sym is ∙ pair_of_composite a b n h) in
          let clash : true ≡ false =
          sym (is_eq_itself (a, b)) ∙ ap (λ y. is_eq (pair_cmp y (a, b))) (sym same) ∙ apart in
          cc in
          cond-false _ _ _ apart ∙ was ∙ sym (below_kept n (composite a b) other)
    ]

-- nothing is put in where n has no pair
pub below_next_kept : (n a b : ℕ) → pair_of n ≡ None → below (n + 1) (composite a b) ≡ below n (composite a b)
below_next_kept n a b none =
    below_kept n (composite a b)
    (λ h. let clash : Some (a, b) ≡ None = sym (pair_of_composite a b n h) ∙ none in cc)

-- a composite is a scalar value
composite_scalar : (a b p : ℕ) → composite a b ≡ Some p → scalar p ≡ true
composite_scalar a b p h = scalar_if_mapped p (ap is_empty (composite-IsCompositeOf a b p h).mapping)

pub below-kept_apart : (n a b : ℕ) → (scalar n ≡ true → ⊥) → below (n + 1) (composite a b) ≡ below n (composite a b)
below-kept_apart n a b none = below_kept n (composite a b) (λ h. none (composite_scalar a b n h))

scalar_low : (p : ℕ) → scalar p ≡ true → p < 0x11_0000
scalar_low p h = elim (scalar_cases p h) [ inl low ↦ omega arith | inr high ↦ omega arith ]

below_all : (o : Option ℕ) → ((p : ℕ) → o ≡ Some p → p < 0x11_0000) → below 0x11_0000 o ≡ o
below_all None low = refl
below_all (Some p) low =
    let test : nat_lt p 0x11_0000 ≡ true = lt-ltb p 0x11_0000 (low p refl) in ap (λ t. if_some t p) test

-- in the end each composite is there
pub all_below : (a b : ℕ) → below 0x11_0000 (composite a b) ≡ composite a b
all_below a b = below_all (composite a b) (λ p h. scalar_low p (composite_scalar a b p h))

-- ---- the entries as rows

is_eq-pair_cmp : (a b : ℕ) (key : ℕ × ℕ) → is_eq (pair_cmp (a, b) key) ≡ (key.0 == a && key.1 == b)
is_eq-pair_cmp a b key = grind (arith, nat_tests)

cond-some : (t : Bool) (row : (ℕ × ℕ) × ℕ) (rows : List ((ℕ × ℕ) × ℕ)) (a b : ℕ)
    → cond t (Some row.1) (composition_of a b rows)
    ≡ option_map (λ r. r.1) (cond t (Some row) (find (λ r. r.0.0 == a && r.0.1 == b) rows))
cond-some true row rows a b = refl
cond-some false row rows a b = refl

pub composition_of-lookup : (a b : ℕ) (rows : List ((ℕ × ℕ) × ℕ))
    → composition_of a b rows ≡ lookup (is_at (pair_cmp (a, b))) rows
composition_of-lookup a b [] = refl
composition_of-lookup a b (row ∷ rows) =
    sym (cond-some (row.0.0 == a && row.0.1 == b) row rows a b)
    ∙ ap (λ t. cond t (Some row.1) (composition_of a b rows)) (sym (is_eq-pair_cmp a b row.0))
    ∙ ap (λ o. cond (is_eq (pair_cmp (a, b) row.0)) (Some row.1) o) (composition_of-lookup a b rows)

less_pair : (x y : ℕ × ℕ) → pair_cmp x y ≡ Less → pair_lt x y ≡ true
less_pair x y h = grind (arith, nat_tests, h)

pub entries_rise : (rows : List ((ℕ × ℕ) × ℕ)) → IsStrictlySortedBy pair_cmp (keys_of rows) → pairs_rise rows ≡ true
unfolding IsStrictlySortedBy
entries_rise [] up = refl
entries_rise (a ∷ []) up = refl
entries_rise (a ∷ (b ∷ rows)) up = and_from _ _ (less_pair a.0 b.0 up.0.0) (entries_rise (b ∷ rows) up.1)

-- a list that is not empty has its first row
pub first_found : (rows : List ((ℕ × ℕ) × ℕ)) → 0 < length rows
    → (a : ℕ) × ((b : ℕ) × ((v : ℕ) × (composition_of a b rows ≡ Some v)))
first_found [] some = absurd (omega arith)
first_found (row ∷ rows) some =
    let here : ((row.0.0 == row.0.0) && (row.0.1 == row.0.1)) ≡ true =
    and_from (row.0.0 == row.0.0) (row.0.1 == row.0.1) (eq-eqb row.0.0 row.0.0 refl) (eq-eqb row.0.1 row.0.1 refl) in (
      row.0.0,
      (
        row.0.1,
        (
          row.1,
          sym (cond-some (row.0.0 == row.0.0 && row.0.1 == row.0.1) row rows row.0.0 row.0.1)
              ∙ cond-true _ _ _ here,
        ),
      ),
    )

-- what is below a number is there
pub some_below : (n : ℕ) (o : Option ℕ) (v : ℕ) → below n o ≡ Some v → IsSome o
some_below n None v e = cc
some_below n (Some p) v e = refl
