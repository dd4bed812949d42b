-- Neighbours with one number that are put together, in a list that is in the order of its numbers.
use Rattle.std.proofs.Common.{◌≡◌, ◌≢◌, inl, inr, ℕ, ◌+◌, ◌-◌, ◌<◌, ◌≤◌, List, [], ◌∷◌, ◌++◌, length, get_or, set, take, drop, sym, ap, subst, arith, refl, ◌∙◌}
use Rattle.std.specs.List.{All}
use Rattle.std.specs.List.Sorted.{IsNonDecreasingBy}
use Rattle.std.proofs.lemmas.Bool.{cases_lt}
use Rattle.std.proofs.lemmas.Grind.{drop_more_same}
use Rattle.std.proofs.lemmas.List.{drop-set-lt, drop_more, get_or-set_same, get_or_default, length-set, take-append-le, take-set, take_all, take_more, take_more_set}
use Rattle.std.proofs.lemmas.List.Elements.{All-append, All-cons, All-head, All-nil, All-tail, All-weaker}
use Rattle.ot_map.specs.Collecting.{IsMergedTo}
use Rattle.ot_map.specs.Lookups.{in_order, together, with_lookup}
use Rattle.ot_map.specs.declared.plan.PlannedLookup.{PlannedLookup}
use Rattle.ot_map.proofs.CollectedLemmas.{taken_behind}
use Rattle.ot_map.proofs.LookupLemmas.{with_lookup-higher, with_lookup-same, in_order-push}

-- one that is behind all others
with_lookup-behind : (l : List PlannedLookup) (x : PlannedLookup) → All (λ y. y.index < x.index) l → with_lookup x l ≡ l ++ x ∷ []
with_lookup-behind [] x low = refl
with_lookup-behind (y ∷ l) x low =
    with_lookup-higher x y l (All-head (λ (z : PlannedLookup). z.index < x.index) y l low)
    ∙ ap (λ m. y ∷ m) (with_lookup-behind l x (All-tail (λ (z : PlannedLookup). z.index < x.index) y l low))

-- one with the number of the last
with_lookup-last : (l : List PlannedLookup) (y x : PlannedLookup) → All (λ z. z.index < x.index) l → y.index ≡ x.index
    → with_lookup x (l ++ y ∷ []) ≡ l ++ together y x ∷ []
with_lookup-last [] y x low same = with_lookup-same x y [] same
with_lookup-last (z ∷ l) y x low same =
    with_lookup-higher x z (l ++ y ∷ []) (All-head (λ (w : PlannedLookup). w.index < x.index) z l low)
    ∙ ap (λ m. z ∷ m) (with_lookup-last l y x (All-tail (λ (w : PlannedLookup). w.index < x.index) z l low) same)

pub IsMergedTo-init : (old : List PlannedLookup) → IsMergedTo old old 0 0
IsMergedTo-init old = record {
  done = refl;
  rest = refl;
  low = λ d. All-nil (λ (z : PlannedLookup). z.index < (get_or old 0 d).index);
  last = λ d some. absurd (omega arith);
  within = omega arith;
  begun = λ h. h;
  long = refl;
}

module _ (old now : List PlannedLookup) (len place : ℕ) (x : PlannedLookup) (before : IsMergedTo old now len place)
    (inside : place < length now) (here : x ≡ get_or now place x) (rises : IsNonDecreasingBy (λ lookup. lookup.index) old) where
  -- the next is the one that was there
  next_is : x ≡ get_or old place x
  next_is =
      let long = before.long in
      let under : place < length old = omega (arith, inside, long) in
      let a = drop_more now place x inside in
      let b = drop_more old place x under in
      let rest = before.rest in
      let both : get_or now place x ∷ drop (place + 1) now ≡ get_or old place x ∷ drop (place + 1) old = sym a ∙ rest ∙ b in
      let heads : get_or now place x ≡ get_or old place x = cc both in
      here ∙ heads

  next_at : (d : PlannedLookup) → x ≡ get_or old place d
  next_at d = next_is ∙ get_or_default old place x d (let long = before.long in omega (arith, inside, long))

  last_low : 0 < len → (get_or now (len - 1) x).index ≤ x.index
  last_low some =
      let within = before.within in
      let long = before.long in
      let is = before.last x some in
      let order : (get_or old (place - 1) x).index ≤ (get_or old place x).index = rises (place - 1) place x (omega arith) (omega (arith, inside, long)) in
      let e = ap (λ (l : PlannedLookup). l.index) next_is in
      omega (arith, is, order, e)

  split : 0 < len → take len now ≡ take (len - 1) now ++ get_or now (len - 1) x ∷ []
  split some =
      let within = before.within in
      let e : len - 1 + 1 ≡ len = omega (arith, some) in
      subst (λ n. take n now ≡ take (len - 1) now ++ get_or now (len - 1) x ∷ []) e
      (take_more now (len - 1) x (omega (arith, some, within, inside)))

  -- all so far are below the next, where the last one is
  all_below : (0 < len → (get_or now (len - 1) x).index < x.index) → All (λ y. y.index < x.index) (take len now)
  all_below below =
      elim (cases_lt 0 len) [
        | inl some ↦
            let less = below some in
            subst (λ l. All (λ (y : PlannedLookup). y.index < x.index) l) (sym (split some))
            (All-append (λ (y : PlannedLookup). y.index < x.index) (take (len - 1) now) (get_or now (len - 1) x ∷ [])
            (All-weaker (λ (y : PlannedLookup). y.index < (get_or now (len - 1) x).index) (λ (y : PlannedLookup). y.index < x.index)
            (λ y low. omega (arith, low, less)) (take (len - 1) now) (before.low x))
            (All-cons (λ (y : PlannedLookup). y.index < x.index) (get_or now (len - 1) x) [] less
            (All-nil (λ (y : PlannedLookup). y.index < x.index))))
        | inr none ↦
            let e : len ≡ 0 = omega (arith, none) in
            subst (λ n. All (λ (y : PlannedLookup). y.index < x.index) (take n now)) (sym e)
            (All-nil (λ (y : PlannedLookup). y.index < x.index))
      ]

  next_taken : take (place + 1) old ≡ take place old ++ x ∷ []
  next_taken =
      let long = before.long in
      take_more old place x (omega (arith, inside, long)) ∙ ap (λ y. take place old ++ y ∷ []) (sym next_is)

  rest_stays : (i : ℕ) (y : PlannedLookup) → i ≤ place → drop (place + 1) (set now i y) ≡ drop (place + 1) old
  rest_stays i y low =
      drop-set-lt (place + 1) now i y (omega (arith, low)) ∙ drop_more_same now old place before.rest

  pub IsMergedTo-next : (0 < len → (get_or now (len - 1) x).index ≢ x.index) → IsMergedTo old (set now len x) (len + 1) (place + 1)
  IsMergedTo-next other =
      let within = before.within in
      let at : len < length now = omega (arith, within, inside) in
      let below : 0 < len → (get_or now (len - 1) x).index < x.index =
      λ some. let low = last_low some in let ne = other some in omega (arith, low, ne) in
      let all = all_below below in
      let e : len + 1 - 1 ≡ len = omega arith in
      let p : place + 1 - 1 ≡ place = omega arith in
      record {
        done = take_more_set now len x at ∙ sym (with_lookup-behind (take len now) x all)
            ∙ ap (with_lookup x) before.done ∙ sym (in_order-push (take place old) x) ∙ ap in_order (sym next_taken);
        rest = rest_stays len x within;
        low = λ d.
            rw e
            (rw (get_or-set_same now len x d at)
            (subst (λ l. All (λ (z : PlannedLookup). z.index < x.index) l) (sym (take-set now len x)) all));
        last = λ d some.
            rw (e, p) (rw (get_or-set_same now len x d at) (ap (λ (l : PlannedLookup). l.index) (next_at d)));
        within = omega (arith, within);
        begun = λ h. omega arith;
        long = length-set now len x ∙ before.long;
      }

  pub IsMergedTo-joined : 0 < len → (get_or now (len - 1) x).index ≡ x.index
      → IsMergedTo old (set now (len - 1) (together (get_or now (len - 1) x) x)) len (place + 1)
  IsMergedTo-joined some same =
      let within = before.within in
      let at : len - 1 < length now = omega (arith, some, within, inside) in
      let e : len - 1 + 1 ≡ len = omega (arith, some) in
      let p : place + 1 - 1 ≡ place = omega arith in
      let y = get_or now (len - 1) x in
      let joined = together (get_or now (len - 1) x) x in
      let below : All (λ z. z.index < x.index) (take (len - 1) now) =
      subst (λ i. All (λ (z : PlannedLookup). z.index < i) (take (len - 1) now)) same (before.low x) in
      record {
        done = subst (λ n. take n (set now (len - 1) joined) ≡ take (len - 1) now ++ joined ∷ []) e (take_more_set now (len - 1) joined at)
            ∙ sym (with_lookup-last (take (len - 1) now) (get_or now (len - 1) x) x below same)
            ∙ ap (with_lookup x) (sym (split some))
            ∙ ap (with_lookup x) before.done ∙ sym (in_order-push (take place old) x) ∙ ap in_order (sym next_taken);
        rest = rest_stays (len - 1) joined (omega (arith, within));
        low = λ d.
            rw (get_or-set_same now (len - 1) joined d at)
            (subst (λ l. All (λ (z : PlannedLookup). z.index < (get_or now (len - 1) x).index) l) (sym (take-set now (len - 1) joined))
            (before.low x));
        last = λ d h.
            rw p (rw (get_or-set_same now (len - 1) joined d at) (same ∙ ap (λ (l : PlannedLookup). l.index) (next_at d)));
        within = omega (arith, within);
        begun = λ h. some;
        long = length-set now (len - 1) joined ∙ before.long;
      }

pub take-merged : (old now : List PlannedLookup) (len place : ℕ) → IsMergedTo old now len place → length old ≤ place
    → take len now ≡ in_order old
take-merged old now len place before all = before.done ∙ ap in_order (take_all place old all)

module _ (old now : List PlannedLookup) (d : PlannedLookup) (len place : ℕ) where
  here_at : place < length now → get_or now place d ≡ get_or now place (get_or now place d)
  here_at inside = get_or_default now place d (get_or now place d) inside

  last_at : len - 1 < length now → get_or now (len - 1) (get_or now place d) ≡ get_or now (len - 1) d
  last_at at = get_or_default now (len - 1) (get_or now place d) d at

  pub IsMergedTo-behind : (get_or now (len - 1) d).index ≢ (get_or now place d).index → len - 1 < length now → place < length now
      → IsNonDecreasingBy (λ lookup. lookup.index) old → IsMergedTo old now len place
      → IsMergedTo old (set now len (get_or now place d)) (len + 1) (place + 1)
  IsMergedTo-behind other at inside rises before =
      IsMergedTo-next old now len place (get_or now place d) before inside (here_at inside) rises
      (λ some equal. other (sym (ap (λ (l : PlannedLookup). l.index) (last_at at)) ∙ equal))

  pub IsMergedTo-with_last : (z : PlannedLookup) → z ≡ together (get_or now (len - 1) d) (get_or now place d)
      → (get_or now (len - 1) d).index ≡ (get_or now place d).index → 0 < len → len - 1 < length now → place < length now
      → IsNonDecreasingBy (λ lookup. lookup.index) old → IsMergedTo old now len place
      → IsMergedTo old (set now (len - 1) z) len (place + 1)
  IsMergedTo-with_last z new equal some at inside rises before =
      subst (λ l. IsMergedTo old (set now (len - 1) l) len (place + 1))
      (sym (new ∙ ap (λ l. together l (get_or now place d)) (sym (last_at at))))
      (IsMergedTo-joined old now len place (get_or now place d) before inside (here_at inside) rises some
      (ap (λ (l : PlannedLookup). l.index) (last_at at) ∙ equal))

  -- the first of all
  pub IsMergedTo-first : len ≡ 0 → place < length now → IsNonDecreasingBy (λ lookup. lookup.index) old → IsMergedTo old now len place
      → IsMergedTo old (set now 0 (get_or now place d)) 1 (place + 1)
  IsMergedTo-first none inside rises before =
      subst (λ n. IsMergedTo old (set now n (get_or now place d)) (n + 1) (place + 1)) none
      (IsMergedTo-next old now len place (get_or now place d) before inside (here_at inside) rises
      (λ some. absurd (omega (arith, none, some))))

pub ruleset merges = (IsMergedTo-first, IsMergedTo-behind, IsMergedTo-with_last)

-- the lookups from a place on, in the places from there on
pub take-merged_behind : (old part ws rest : List PlannedLookup) (start n : ℕ) → start ≤ length old → n ≤ length ws
    → take n ws ≡ in_order part → part ≡ drop start old
    → take (start + n) (take start old ++ (ws ++ rest)) ≡ take start old ++ in_order (drop start old)
take-merged_behind old part ws rest start n inside few is part_is =
    taken_behind start n old (ws ++ rest) inside
    ∙ ap (λ l. take start old ++ l) (take-append-le n ws rest few ∙ is ∙ ap in_order part_is)
