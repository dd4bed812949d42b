-- Lookups in the order of their numbers, each once: in whatever order they come.
use Rattle.std.proofs.Common.{◌≡◌, ◌⊎◌, inl, inr, ℕ, zero, suc, ◌+◌, ◌*◌, ◌/◌, ◌%◌, ◌<◌, max, List, [], ◌∷◌, ◌++◌, Bool, true, false, ◌==◌, ◌&&◌, ◌||◌}
use Rattle.std.proofs.Common.{bit_or, length, get_or, set, nat_lt, sym, ap, subst, arith, refl, ◌∙◌}
use Rattle.std.specs.List.{swap}
use Rattle.std.specs.List.Sorted.{IsPermutation}
use Rattle.std.proofs.lemmas.Bool.{cases_lt}
use Rattle.std.proofs.lemmas.Bool.Decides.{nat_tests}
use Rattle.std.proofs.lemmas.List.Sorted.{IsPermutation-keeps}
use Rattle.std.proofs.lemmas.Nat.{or_comm}
use lib.Arith.{bin_ind}
use lib.Bits.{or_step}
use Rattle.ot_map.specs.Lookups.{in_order, together, with_lookup}
use Rattle.ot_map.specs.declared.plan.PlannedLookup.{PlannedLookup}

max_assoc : (a b c : ℕ) → max (max a b) c ≡ max a (max b c)
max_assoc a b c = omega arith

halves : (x t m : ℕ) → x ≡ t * 2 + m → m < 2 → (x / 2 ≡ t) × (x % 2 ≡ m)
halves x t m e small = (omega arith, omega arith)

bit_or_assoc : (a b c : ℕ) → bit_or (bit_or a b) c ≡ bit_or a (bit_or b c)
bit_or_assoc = bin_ind (λ a. (b c : ℕ) → bit_or (bit_or a b) c ≡ bit_or a (bit_or b c)) (λ b c. refl)
    (λ a ih b c.
    let ab = halves (bit_or a b) (bit_or (a / 2) (b / 2)) (max (a % 2) (b % 2)) (or_step a b) (omega arith) in
    let bc = halves (bit_or b c) (bit_or (b / 2) (c / 2)) (max (b % 2) (c % 2)) (or_step b c) (omega arith) in
    or_step (bit_or a b) c
    ∙ ap (λ x. bit_or x (c / 2) * 2 + max (bit_or a b % 2) (c % 2)) ab.0
    ∙ ap (λ x. bit_or (bit_or (a / 2) (b / 2)) (c / 2) * 2 + max x (c % 2)) ab.1
    ∙ ap (λ x. x * 2 + max (max (a % 2) (b % 2)) (c % 2)) (ih (b / 2) (c / 2))
    ∙ ap (λ x. bit_or (a / 2) (bit_or (b / 2) (c / 2)) * 2 + x) (max_assoc (a % 2) (b % 2) (c % 2))
    ∙ ap (λ x. bit_or (a / 2) x * 2 + max (a % 2) (max (b % 2) (c % 2))) (sym bc.0)
    ∙ ap (λ x. bit_or (a / 2) (bit_or b c / 2) * 2 + max (a % 2) x) (sym bc.1)
    ∙ sym (or_step a (bit_or b c)))

bit_or_swap : (a b c : ℕ) → bit_or (bit_or a b) c ≡ bit_or (bit_or a c) b
bit_or_swap a b c = bit_or_assoc a b c ∙ ap (bit_or a) (or_comm b c) ∙ sym (bit_or_assoc a c b)

and_swap : (a b c : Bool) → ((a && b) && c) ≡ ((a && c) && b)
and_swap true true true = refl
and_swap true true false = refl
and_swap true false true = refl
and_swap true false false = refl
and_swap false true true = refl
and_swap false true false = refl
and_swap false false true = refl
and_swap false false false = refl

or_bool_swap : (a b c : Bool) → ((a || b) || c) ≡ ((a || c) || b)
or_bool_swap true true true = refl
or_bool_swap true true false = refl
or_bool_swap true false true = refl
or_bool_swap true false false = refl
or_bool_swap false true true = refl
or_bool_swap false true false = refl
or_bool_swap false false true = refl
or_bool_swap false false false = refl

and_bool_comm : (a b : Bool) → (a && b) ≡ (b && a)
and_bool_comm true true = refl
and_bool_comm true false = refl
and_bool_comm false true = refl
and_bool_comm false false = refl

or_bool_comm : (a b : Bool) → (a || b) ≡ (b || a)
or_bool_comm true true = refl
or_bool_comm true false = refl
or_bool_comm false true = refl
or_bool_comm false false = refl

-- a third entry and a fourth may come the other way round
together_swap : (y a b : PlannedLookup) → together (together y a) b ≡ together (together y b) a
together_swap y a b =
    λ i. record y {
      mask = bit_or_swap y.mask a.mask b.mask i;
      auto_zwnj = and_swap y.auto_zwnj a.auto_zwnj b.auto_zwnj i;
      auto_zwj = and_swap y.auto_zwj a.auto_zwj b.auto_zwj i;
      random = or_bool_swap y.random a.random b.random i;
      per_syllable = or_bool_swap y.per_syllable a.per_syllable b.per_syllable i;
    }

together_comm : (a b : PlannedLookup) → a.index ≡ b.index → together a b ≡ together b a
together_comm a b same =
    λ i. record {
      index = same i;
      mask = or_comm a.mask b.mask i;
      auto_zwnj = and_bool_comm a.auto_zwnj b.auto_zwnj i;
      auto_zwj = and_bool_comm a.auto_zwj b.auto_zwj i;
      random = or_bool_comm a.random b.random i;
      per_syllable = or_bool_comm a.per_syllable b.per_syllable i;
    }

-- what `with_lookup` does at the first of a list, by how the numbers stand
pub with_lookup-same : (x y : PlannedLookup) (l : List PlannedLookup) → y.index ≡ x.index → with_lookup x (y ∷ l) ≡ together y x ∷ l
with_lookup-same x y l same = let e : (y.index == x.index) ≡ true = grind (arith, nat_tests, same) in rw e refl

with_lookup-lower : (x y : PlannedLookup) (l : List PlannedLookup) → x.index < y.index → with_lookup x (y ∷ l) ≡ x ∷ y ∷ l
with_lookup-lower x y l less =
    let e : (y.index == x.index) ≡ false = grind (arith, nat_tests, less) in
    let t : nat_lt x.index y.index ≡ true = grind (arith, nat_tests, less) in
    rw (e, t) refl

pub with_lookup-higher : (x y : PlannedLookup) (l : List PlannedLookup) → y.index < x.index → with_lookup x (y ∷ l) ≡ y ∷ with_lookup x l
with_lookup-higher x y l more =
    let e : (y.index == x.index) ≡ false = grind (arith, nat_tests, more) in
    let t : nat_lt x.index y.index ≡ false = grind (arith, nat_tests, more) in
    rw (e, t) refl

cases_order : (a b : ℕ) → (a < b) ⊎ ((a ≡ b) ⊎ (b < a))
cases_order a b =
    elim (cases_lt a b) [
      | inl less ↦ inl less
      | inr more ↦
          elim (cases_lt b a) [
            | inl above ↦ inr (inr above)
            | inr below ↦ inr (inl (omega (arith, more, below)))
          ]
    ]

-- for a before b in numbers
with_lookup-ordered : (a b : PlannedLookup) (l : List PlannedLookup) → a.index < b.index
    → with_lookup a (with_lookup b l) ≡ with_lookup b (with_lookup a l)
with_lookup-ordered a b [] less = with_lookup-lower a b [] less ∙ sym (with_lookup-higher b a [] less)
with_lookup-ordered a b (y ∷ l) less =
    elim (cases_order y.index b.index) [
      | inl lower ↦
          ap (with_lookup a) (with_lookup-higher b y l lower)
          ∙ elim (cases_order y.index a.index) [
            | inl low ↦
                with_lookup-higher a y (with_lookup b l) low ∙ ap (λ m. y ∷ m) (with_lookup-ordered a b l less)
                ∙ sym (with_lookup-higher b y (with_lookup a l) lower) ∙ ap (with_lookup b) (sym (with_lookup-higher a y l low))
            | inr rest ↦
                elim rest [
                  | inl same ↦
                      with_lookup-same a y (with_lookup b l) same
                      ∙ sym (with_lookup-higher b (together y a) l lower) ∙ ap (with_lookup b) (sym (with_lookup-same a y l same))
                  | inr high ↦
                      with_lookup-lower a y (with_lookup b l) high
                      ∙ ap (λ m. a ∷ m) (sym (with_lookup-higher b y l lower))
                      ∙ sym (with_lookup-higher b a (y ∷ l) less) ∙ ap (with_lookup b) (sym (with_lookup-lower a y l high))
                ]
          ]
      | inr rest ↦
          elim rest [
            | inl same ↦
                let high : a.index < y.index = omega (arith, less, same) in
                ap (with_lookup a) (with_lookup-same b y l same) ∙ with_lookup-lower a (together y b) l high
                ∙ ap (λ m. a ∷ m) (sym (with_lookup-same b y l same)) ∙ sym (with_lookup-higher b a (y ∷ l) less)
                ∙ ap (with_lookup b) (sym (with_lookup-lower a y l high))
            | inr above ↦
                let high : a.index < y.index = omega (arith, less, above) in
                ap (with_lookup a) (with_lookup-lower b y l above) ∙ with_lookup-lower a b (y ∷ l) less
                ∙ ap (λ m. a ∷ m) (sym (with_lookup-lower b y l above)) ∙ sym (with_lookup-higher b a (y ∷ l) less)
                ∙ ap (with_lookup b) (sym (with_lookup-lower a y l high))
          ]
    ]

with_lookup-equal : (a b : PlannedLookup) (l : List PlannedLookup) → a.index ≡ b.index
    → with_lookup a (with_lookup b l) ≡ with_lookup b (with_lookup a l)
with_lookup-equal a b [] same = with_lookup-same a b [] (sym same) ∙ ap (λ x. x ∷ []) (together_comm b a (sym same)) ∙ sym (with_lookup-same b a [] same)
with_lookup-equal a b (y ∷ l) same =
    elim (cases_order y.index b.index) [
      | inl lower ↦
          let low : y.index < a.index = omega (arith, lower, same) in
          ap (with_lookup a) (with_lookup-higher b y l lower) ∙ with_lookup-higher a y (with_lookup b l) low
          ∙ ap (λ m. y ∷ m) (with_lookup-equal a b l same)
          ∙ sym (with_lookup-higher b y (with_lookup a l) lower) ∙ ap (with_lookup b) (sym (with_lookup-higher a y l low))
      | inr rest ↦
          elim rest [
            | inl here ↦
                let own : y.index ≡ a.index = omega (arith, here, same) in
                ap (with_lookup a) (with_lookup-same b y l here) ∙ with_lookup-same a (together y b) l own
                ∙ ap (λ x. x ∷ l) (together_swap y b a)
                ∙ sym (with_lookup-same b (together y a) l here) ∙ ap (with_lookup b) (sym (with_lookup-same a y l own))
            | inr above ↦
                let high : a.index < y.index = omega (arith, above, same) in
                ap (with_lookup a) (with_lookup-lower b y l above) ∙ with_lookup-same a b (y ∷ l) (sym same)
                ∙ ap (λ x. x ∷ y ∷ l) (together_comm b a (sym same))
                ∙ sym (with_lookup-same b a (y ∷ l) same) ∙ ap (with_lookup b) (sym (with_lookup-lower a y l high))
          ]
    ]

-- two lookups may come in either order
with_lookup-swap : (a b : PlannedLookup) (l : List PlannedLookup)
    → with_lookup a (with_lookup b l) ≡ with_lookup b (with_lookup a l)
with_lookup-swap a b l =
    elim (cases_order a.index b.index) [
      | inl less ↦ with_lookup-ordered a b l less
      | inr rest ↦
          elim rest [
            | inl same ↦ with_lookup-equal a b l same
            | inr more ↦ sym (with_lookup-ordered b a l more)
          ]
    ]

-- one that stands in the place of another
with_lookup-in_order_set : (l : List PlannedLookup) (i : ℕ) (v d : PlannedLookup) → i < length l
    → with_lookup (get_or l i d) (in_order (set l i v)) ≡ with_lookup v (in_order l)
with_lookup-in_order_set [] i v d within = absurd (omega (arith, within))
with_lookup-in_order_set (x ∷ l) zero v d within = with_lookup-swap x v (in_order l)
with_lookup-in_order_set (x ∷ l) (suc i) v d within =
    with_lookup-swap (get_or l i d) x (in_order (set l i v))
    ∙ ap (with_lookup x) (with_lookup-in_order_set l i v d (omega (arith, within)))
    ∙ with_lookup-swap x v (in_order l)

in_order-swap_up : (l : List PlannedLookup) (i j : ℕ) (d : PlannedLookup) → i < j → j < length l
    → in_order (set (set l i (get_or l j d)) j (get_or l i d)) ≡ in_order l
in_order-swap_up [] i j d up within = absurd (omega (arith, within))
in_order-swap_up (x ∷ l) zero zero d up within = absurd (omega (arith, up))
in_order-swap_up (x ∷ l) zero (suc j) d up within = with_lookup-in_order_set l j x d (omega (arith, within))
in_order-swap_up (x ∷ l) (suc i) zero d up within = absurd (omega (arith, up))
in_order-swap_up (x ∷ l) (suc i) (suc j) d up within =
    ap (with_lookup x) (in_order-swap_up l i j d (omega (arith, up)) (omega (arith, within)))

set-here : (l : List PlannedLookup) (i : ℕ) (d : PlannedLookup) → set (set l i (get_or l i d)) i (get_or l i d) ≡ l
set-here [] i d = refl
set-here (x ∷ l) zero d = refl
set-here (x ∷ l) (suc i) d = ap (λ m. x ∷ m) (set-here l i d)

set-turned : (l : List PlannedLookup) (i j : ℕ) (d : PlannedLookup) → j < i
    → set (set l i (get_or l j d)) j (get_or l i d) ≡ set (set l j (get_or l i d)) i (get_or l j d)
set-turned [] i j d down = refl
set-turned (x ∷ l) zero j d down = absurd (omega (arith, down))
set-turned (x ∷ l) (suc i) zero d down = refl
set-turned (x ∷ l) (suc i) (suc j) d down = ap (λ m. x ∷ m) (set-turned l i j d (omega (arith, down)))

in_order-swap : (l : List PlannedLookup) (i j : ℕ) → i < length l → j < length l → in_order (swap l i j) ≡ in_order l
in_order-swap [] i j a b = refl
in_order-swap (x ∷ l) i j a b =
    elim (cases_order i j) [
      | inl up ↦ in_order-swap_up (x ∷ l) i j x up b
      | inr rest ↦
          elim rest [
            | inl same ↦
                subst (λ k. in_order (set (set (x ∷ l) i (get_or (x ∷ l) k x)) k (get_or (x ∷ l) i x)) ≡ in_order (x ∷ l)) same
                (ap in_order (set-here (x ∷ l) i x))
            | inr down ↦ ap in_order (set-turned (x ∷ l) i j x down) ∙ in_order-swap_up (x ∷ l) j i x down a
          ]
    ]

-- whatever the order in which they come
pub in_order-permutation : (xs ys : List PlannedLookup) → IsPermutation xs ys → in_order ys ≡ in_order xs
in_order-permutation xs ys moved =
    IsPermutation-keeps xs (λ l. in_order l ≡ in_order xs) refl (λ l i j a b before. in_order-swap l i j a b ∙ before) ys moved

pub in_order-push : (xs : List PlannedLookup) (x : PlannedLookup) → in_order (xs ++ x ∷ []) ≡ with_lookup x (in_order xs)
in_order-push [] x = refl
in_order-push (y ∷ xs) x = ap (with_lookup y) (in_order-push xs x) ∙ with_lookup-swap y x (in_order xs)
