-- Lists in the order of keys: a bisection finds a key, or the gap for it, and requests are put in there.
use Rattle.std.proofs.Common.{◌≡◌, inl, inr, ℕ, zero, suc, ◌<◌, ◌≤◌, List, [], ◌∷◌, length, get_or, set, Some, None, Result, Ok, Err, IfOk, IfErr, MatchResult, slice_get, sym, ap, subst, arith, refl, true, false, ◌==◌, ◌∙◌, nat_lt}
use Rattle.std.specs.List.{insert}
use Rattle.std.specs.List.Sorted.{IsSearchInRange, IsBinarySearchResult, IsNonDecreasingBy}
use Rattle.std.specs.Ordering.{nat_cmp, ordering_index}
use Rattle.std.proofs.lemmas.Bool.{cases_lt}
use Rattle.std.proofs.lemmas.Bool.Decides.{nat_tests}
use Rattle.std.proofs.lemmas.Cmp.{ranked}
use Rattle.std.proofs.lemmas.Option.{get_or_from_slice_get, slice_get-get_or, slice_get_cases, slice_get_read}
use Rattle.ot_map.specs.Order.{KeysRise, IsPlaceOf, IsGapFor}
use Rattle.ot_map.specs.Plan.{IsWithTag}
use Rattle.ot_map.specs.Requests.{merged, with_request}
use Rattle.ot_map.specs.declared.plan.PlannedFeature.{PlannedFeature}
use Rattle.ot_map.specs.declared.request.FeatureRequest.{FeatureRequest}

module _ {X : Type 0} (key : X → ℕ) (l : List X) (k : ℕ) where
  do_not_fall : KeysRise key l → (i j : ℕ) (d : X) → i ≤ j → j < length l → key (get_or l i d) ≤ key (get_or l j d)
  do_not_fall ordered i j d le less =
      elim (cases_lt i j) [
        | inl before ↦
            let below = ordered i j _ _ before (slice_get-get_or l i d (omega (arith, le, less))) (slice_get-get_or l j d less) in
            omega (arith, below)
        | inr last ↦
            let same : i ≡ j = omega (arith, le, last) in
            let e : key (get_or l i d) ≡ key (get_or l j d) = ap (λ n. key (get_or l n d)) same in
            omega (arith, e)
      ]

  comparisons_rise : KeysRise key l → IsNonDecreasingBy (λ x. ordering_index (nat_cmp (key x) k)) l
  comparisons_rise ordered i j d le less =
      let rise = do_not_fall ordered i j d le less in
      grind (arith, nat_tests)

  inside : (i : ℕ) (x : X) → slice_get l i ≡ Some x → i < length l
  inside i x is =
      elim (slice_get_cases l i).1 [
        | inl there ↦ there.1
        | inr beyond ↦ let none = beyond.1 in cc
      ]

  pub found : (r : Result ℕ ℕ) → IsSearchInRange r (length l) → IsBinarySearchResult (λ x. nat_cmp (key x) k) l r
      → MatchResult r (IsPlaceOf key k l) (λ i. KeysRise key l → IsGapFor key k l i)
  found (Ok at) within equal = (
    within,
    λ x is.
        subst (λ y. key y ≡ k) (get_or_from_slice_get l at x x is) (ranked _ k _ (sym (equal x))),
  )
  found (Err at) within parted = λ ordered. (
    within,
    λ i x is.
        let here : get_or l i x ≡ x = get_or_from_slice_get l i x x is in
        let less = inside i x is in
        let parts = parted (comparisons_rise ordered) in (
          λ before. subst (λ y. key y < k) here (ranked _ k _ (sym (parts.0 i x (omega arith) before))),
          λ behind. subst (λ y. k < key y) here (ranked _ k _ (sym (parts.1 i x behind less))),
        ),
  )

-- no feature in whose place a tag would stand has the tag
pub none_with_tag : (l : List PlannedFeature) (tag i : ℕ) → (KeysRise (λ f. f.tag.0) l → IsGapFor (λ f. f.tag.0) tag l i) → IsWithTag l tag None
none_with_tag l tag i gap = λ ordered j f is same.
    let parts = (gap ordered).1 j f is in
    elim (cases_lt j i) [
      | inl before ↦ let lower = parts.0 before in omega (arith, lower, same)
      | inr behind ↦ let higher = parts.1 behind in omega (arith, higher, same)
    ]

pub found_feature : (l : List PlannedFeature) (tag : ℕ) (r : Result ℕ ℕ) → IsSearchInRange r (length l)
    → IsBinarySearchResult (λ f. nat_cmp f.tag.0 tag) l r
    → MatchResult r (IsPlaceOf (λ f. f.tag.0) tag l) (λ _. IsWithTag l tag None)
found_feature l tag (Ok at) within equal = found (λ f. f.tag.0) l tag (Ok at) within equal
found_feature l tag (Err at) within parted = none_with_tag l tag at (found (λ f. f.tag.0) l tag (Err at) within parted)

pub found_request : (l : List FeatureRequest) (tag : ℕ) (r : Result ℕ ℕ) → IsSearchInRange r (length l)
    → IsBinarySearchResult (λ q. nat_cmp q.tag.0 tag) l r
    → record {
      found : IfOk r (IsPlaceOf (λ q. q.tag.0) tag l);
      fits : IfErr r (λ i. i ≤ length l);
      gap : KeysRise (λ q. q.tag.0) l → IfErr r (IsGapFor (λ q. q.tag.0) tag l);
    }
found_request l tag (Ok at) within equal = record { found = found (λ q. q.tag.0) l tag (Ok at) within equal; fits = tt; gap = λ _. tt }
found_request l tag (Err at) within parted = record { found = tt; fits = within; gap = found (λ q. q.tag.0) l tag (Err at) within parted }

tail_rises : (r : FeatureRequest) (l : List FeatureRequest) → KeysRise (λ q. q.tag.0) (r ∷ l) → KeysRise (λ q. q.tag.0) l
tail_rises r l ordered i j x y less isx isy = ordered (suc i) (suc j) x y (omega (arith, less)) isx isy

-- a request of a tag that is there takes in a later one
pub set-merged : (l : List FeatureRequest) (later before : FeatureRequest) (i : ℕ) → KeysRise (λ q. q.tag.0) l
    → slice_get l i ≡ Some before → before.tag.0 ≡ later.tag.0 → set l i (merged before later) ≡ with_request later l
set-merged [] later before i ordered is same = cc
set-merged (q ∷ l) later before zero ordered is same =
    let e : q ≡ before = cc in
    let t : (q.tag.0 == later.tag.0) ≡ true = grind (arith, nat_tests, ap (λ (x : FeatureRequest). x.tag.0) e, same) in
    rw t (ap (λ x. merged x later ∷ l) (sym e))
set-merged (q ∷ l) later before (suc i) ordered is same =
    let lower = ordered zero (suc i) q before (omega arith) refl is in
    let other : (q.tag.0 == later.tag.0) ≡ false = grind (arith, nat_tests, lower, same) in
    let below : nat_lt later.tag.0 q.tag.0 ≡ false = grind (arith, nat_tests, lower, same) in
    rw (other, below) (ap (λ m. q ∷ m) (set-merged l later before i (tail_rises q l ordered) is same))

-- a request of another tag is put in at the gap for it
pub insert-with_request : (l : List FeatureRequest) (later : FeatureRequest) (i : ℕ)
    → IsGapFor (λ q. q.tag.0) later.tag.0 l i
    → insert l i later ≡ with_request later l
insert-with_request [] later zero gap = refl
insert-with_request [] later (suc i) gap = absurd (let within = gap.0 in omega (arith, within))
insert-with_request (q ∷ l) later zero gap =
    let higher = (gap.1 zero q refl).1 (omega arith) in
    let other : (q.tag.0 == later.tag.0) ≡ false = grind (arith, nat_tests, higher) in
    let below : nat_lt later.tag.0 q.tag.0 ≡ true = grind (arith, nat_tests, higher) in
    rw (other, below) refl
insert-with_request (q ∷ l) later (suc i) gap =
    let lower = (gap.1 zero q refl).0 (omega arith) in
    let other : (q.tag.0 == later.tag.0) ≡ false = grind (arith, nat_tests, lower) in
    let below : nat_lt later.tag.0 q.tag.0 ≡ false = grind (arith, nat_tests, lower) in
    let within = gap.0 in
    let rest : IsGapFor (λ q. q.tag.0) later.tag.0 l i = (
      omega (arith, within),
      λ j x is. let parts = gap.1 (suc j) x is in
          (λ before. parts.0 (omega (arith, before)), λ behind. parts.1 (omega (arith, behind))),
    ) in
    rw (other, below) (ap (λ m. q ∷ m) (insert-with_request l later i rest))

-- a request that is merged at its place, or put in at its gap
pub set-asked : (l : List FeatureRequest) (before request later new : FeatureRequest) (i tag : ℕ)
    → KeysRise (λ q. q.tag.0) l
    → IsPlaceOf (λ q. q.tag.0) tag l i → before ≡ get_or l i before → new ≡ merged before request → request ≡ later
    → later.tag.0 ≡ tag → set l i new ≡ with_request later l
set-asked l before request later new i tag ordered place is m same named =
    let there = slice_get_read l (length l) i before refl place.0 is in
    rw (m, same) (set-merged l later before i ordered there (place.1 before there ∙ sym named))

pub asked_new : (l new : List FeatureRequest) (request later : FeatureRequest) (i tag : ℕ) → IsGapFor (λ q. q.tag.0) tag l i
    → new ≡ insert l i request → request ≡ later → later.tag.0 ≡ tag → new ≡ with_request later l
asked_new l new request later i tag gap m same named =
    rw (m, same)
    (insert-with_request l later i (subst (λ t. IsGapFor (λ (q : FeatureRequest). q.tag.0) t l i) (sym named) gap))
