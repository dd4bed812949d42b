-- Requests that get the features of their tags, one after the other.
use Rattle.std.proofs.Common.{◌≡◌, ◌≢◌, inl, inr, ℕ, zero, suc, ◌+◌, ◌<◌, List, [], ◌∷◌, length, get_or, set, map, Bool, true, false, ◌==◌, Option, Some, None}
use Rattle.std.proofs.Common.{slice_get, cond, sym, ap, arith, refl, ◌∙◌}
use Rattle.std.specs.List.{find}
use Rattle.std.specs.Option.{option_and_then, option_or}
use Rattle.std.proofs.lemmas.Bool.{cases_lt, cases_Bool}
use Rattle.std.proofs.lemmas.Bool.Decides.{nat_tests}
use Rattle.std.proofs.lemmas.Grind.{common_steps}
use Rattle.std.proofs.lemmas.Option.{slice_get-get_or}
use Rattle.std.proofs.lemmas.Simd.{map-map}
use Rattle.font_tables.specs.Bytes.{is_number}
use Rattle.font_tables.specs.Rows.{first_below}
use Rattle.font_tables.proofs.RowLemmas.{is_first}
use Rattle.ot_map.specs.Features.{first_feature}
use Rattle.ot_map.specs.FeaturesFound.{noted, noted_at}
use Rattle.ot_map.specs.Order.{IsGapFor, IsPlaceOf, KeysRise}
use Rattle.ot_map.specs.Requests.{with_index}
use Rattle.ot_map.specs.Tables.{feature_tag, system_feature, tag_in_system}
use Rattle.ot_map.specs.declared.builder.ChosenTable.{ChosenTable}
use Rattle.ot_map.specs.declared.request.FeatureRequest.{FeatureRequest}

-- a map that changes no item, or one alone
map-same : {X : Type 0} (f : X → X) (l : List X) → ((i : ℕ) (x : X) → slice_get l i ≡ Some x → f x ≡ x) → l ≡ map f l
map-same f [] same = refl
map-same f (x ∷ l) same =
    ap (λ y. y ∷ l) (sym (same zero x refl)) ∙ ap (λ m. f x ∷ m) (map-same f l (λ i y is. same (suc i) y is))

set-map : {X : Type 0} (f : X → X) (l : List X) (i : ℕ) (d : X) → i < length l
    → ((j : ℕ) (x : X) → slice_get l j ≡ Some x → j ≢ i → f x ≡ x) → set l i (f (get_or l i d)) ≡ map f l
set-map f [] i d within same = absurd (omega (arith, within))
set-map f (x ∷ l) zero d within same =
    ap (λ m. f x ∷ m) (map-same f l (λ j y is. same (suc j) y is (λ e. absurd (omega (arith, e)))))
set-map f (x ∷ l) (suc i) d within same =
    ap (λ y. y ∷ set l i (f (get_or l i d))) (sym (same zero x refl (λ e. absurd (omega (arith, e)))))
    ∙ ap (λ m. f x ∷ m) (set-map f l i d (omega (arith, within)) (λ j y is other. same (suc j) y is (λ e. other (omega (arith, e)))))

with_index-tag_0 : (b : Bool) (o : Option ℕ) (q : FeatureRequest) → (with_index b o q).tag.0 ≡ q.tag.0
with_index-tag_0 true o q = refl
with_index-tag_0 false o q = refl

option_or-none : (o : Option ℕ) → option_or o None ≡ o
option_or-none None = refl
option_or-none (Some n) = refl

option_or-found : (o : Option ℕ) (n : ℕ) (more : Option ℕ) → option_or (option_or o (Some n)) more ≡ option_or o (Some n)
option_or-found None n more = refl
option_or-found (Some m) n more = refl

with_index-none : (b : Bool) (q : FeatureRequest) → with_index b None q ≡ q
with_index-none true q = λ i. record q { gsub = option_or-none q.gsub i }
with_index-none false q = λ i. record q { gpos = option_or-none q.gpos i }

-- one that was found stays
with_index-found : (b : Bool) (n : ℕ) (more : Option ℕ) (q : FeatureRequest)
    → with_index b more (with_index b (Some n) q) ≡ with_index b (Some n) q
with_index-found true n more q = λ i. record q { gsub = option_or-found q.gsub n more i }
with_index-found false n more q = λ i. record q { gpos = option_or-found q.gpos n more i }

is_number-other : (m n : ℕ) → n ≢ m → is_number (Some m) n ≡ false
is_number-other m n other = grind (arith, nat_tests, other)

KeysRise-map : {X : Type 0} (key : X → ℕ) (f : X → X) → ((x : X) → key (f x) ≡ key x) → (l : List X) → KeysRise key l
    → KeysRise key (map f l)
KeysRise-map key f same l ordered i j x y less isx isy =
    let a = mapped_at f l i x isx in
    let b = mapped_at f l j y isy in
    let rise = ordered i j a.0 b.0 less a.1.0 b.1.0 in
    let ka = ap key a.1.1 ∙ same a.0 in
    let kb = ap key b.1.1 ∙ same b.0 in
    omega (arith, rise, ka, kb)
  where
    mapped_at : {X : Type 0} (f : X → X) (l : List X) (i : ℕ) (x : X) → slice_get (map f l) i ≡ Some x
        → (y : X) × ((slice_get l i ≡ Some y) × (x ≡ f y))
    mapped_at f [] i x is = absurd (grind (arith, common_steps, is))
    mapped_at f (y ∷ l) zero x is = (y, (refl, let e : f y ≡ x = cc is in sym e))
    mapped_at f (y ∷ l) (suc i) x is = mapped_at f l i x is

module _ (table : ChosenTable) (b : Bool) where
  abbrev tag_at : ℕ → Option ℕ
  tag_at place = tag_in_system table.lists.features.now table.system.now place

  pub noted-order : (n : ℕ) (l : List FeatureRequest) → KeysRise (λ q. q.tag.0) l
      → KeysRise (λ q. q.tag.0) (map (noted table b n) l)
  noted-order n l ordered =
      KeysRise-map (λ (q : FeatureRequest). q.tag.0) (noted table b n) (λ q. with_index-tag_0 b (first_feature table q.tag.0 n) q) l ordered

  pub noted-begin : (l : List FeatureRequest) → l ≡ map (noted table b 0) l
  noted-begin l = map-same (noted table b 0) l (λ i q is. with_index-none b q)

  -- no feature in a place
  pub noted_at-none : (place : ℕ) (l : List FeatureRequest)
      → tag_in_system table.lists.features.now table.system.now place ≡ None → l ≡ map (noted_at table b place) l
  noted_at-none place l none = map-same (noted_at table b place) l (λ i q is. rw none refl)

  pub noted_at-other : (place tag at : ℕ) (l : List FeatureRequest)
      → tag_in_system table.lists.features.now table.system.now place ≡ Some tag
      → IsGapFor (λ q. q.tag.0) tag l at → l ≡ map (noted_at table b place) l
  noted_at-other place tag at l some gap =
      map-same (noted_at table b place) l
      (λ i q is.
      let parts = gap.1 i q is in
      let other : q.tag.0 ≢ tag = λ same.
      elim (cases_lt i at) [
        | inl before ↦ let low = parts.0 before in omega (arith, low, same)
        | inr behind ↦ let high = parts.1 behind in omega (arith, high, same)
      ] in
      let e = is_number-other tag q.tag.0 other in
      rw (some, e) refl)

  pub noted_at-there : (place tag index at : ℕ) (l : List FeatureRequest) (d : FeatureRequest)
      → system_feature table.system.now place ≡ Some index
      → tag_in_system table.lists.features.now table.system.now place ≡ Some tag
      → KeysRise (λ q. q.tag.0) l → IsPlaceOf (λ q. q.tag.0) tag l at
      → set l at (with_index b (Some index) (get_or l at d)) ≡ map (noted_at table b place) l
  noted_at-there place tag index at l d is some ordered here =
      let there = slice_get-get_or l at d here.0 in
      let own : (get_or l at d).tag.0 ≡ tag = here.1 (get_or l at d) there in
      let own_number : is_number (Some tag) (get_or l at d).tag.0 ≡ true = grind (arith, nat_tests, own) in
      let new : noted_at table b place (get_or l at d) ≡ with_index b (Some index) (get_or l at d) = rw (some, own_number, is) refl in
      ap (set l at) (sym new)
      ∙ set-map (noted_at table b place) l at d here.0
      (λ j q isq other.
      let ne : q.tag.0 ≢ tag = λ same.
      elim (cases_lt j at) [
        | inl before ↦ let low = ordered j at q (get_or l at d) before isq there in omega (arith, low, same, own)
        | inr behind ↦
            let more : at < j = omega (arith, behind, other) in
            let high = ordered at j (get_or l at d) q more there isq in
            omega (arith, high, same, own)
      ] in
      let e = is_number-other tag q.tag.0 ne in
      rw (some, e) refl)

  -- a number that stands for a tag
  system_some : (place tag : ℕ) → is_number (tag_at place) tag ≡ true → (n : ℕ) × (system_feature table.system.now place ≡ Some n)
  system_some place tag passes = some_of (system_feature table.system.now place) (feature_tag table.lists.features.now) tag passes
    where
      some_of : (o : Option ℕ) (f : ℕ → Option ℕ) (tag : ℕ) → is_number (option_and_then f o) tag ≡ true → (n : ℕ) × (o ≡ Some n)
      some_of None f tag passes = absurd (grind (arith, common_steps, passes))
      some_of (Some n) f tag passes = (n, refl)

  step : (n : ℕ) (q : FeatureRequest) (before : Option ℕ)
      → ((j : ℕ) → before ≡ Some j → is_number (tag_at j) q.tag.0 ≡ true)
      → noted_at table b n (with_index b (option_and_then (system_feature table.system.now) before) q)
      ≡ with_index b (option_and_then (system_feature table.system.now)
      (option_or before (cond (is_number (tag_at n) q.tag.0) (Some n) None))) q
  step n q None passes =
      ap (noted_at table b n) (with_index-none b q)
      ∙ elim (cases_Bool (is_number (tag_at n) q.tag.0)) [
        | inl own ↦ rw own refl
        | inr other ↦ rw other (sym (with_index-none b q))
      ]
  step n q (Some j) passes =
      let number = system_some j q.tag.0 (passes j refl) in
      rw number.1
      (elim (cases_Bool (is_number (tag_at n) (with_index b (Some number.0) q).tag.0)) [
        | inl own ↦ rw own (with_index-found b number.0 (system_feature table.system.now n) q)
        | inr other ↦ rw other refl
      ])

  noted-more : (n : ℕ) (q : FeatureRequest) → noted_at table b n (noted table b n q) ≡ noted table b (suc n) q
  noted-more n q =
      step n q (first_below (λ place. is_number (tag_at place) q.tag.0) n)
      (λ j is. (is_first (λ place. is_number (tag_at place) q.tag.0) n j is).passes)

  pub noted-step : (n : ℕ) (l : List FeatureRequest) → map (noted_at table b n) (map (noted table b n) l) ≡ map (noted table b (n + 1)) l
  noted-step n l =
      let e : n + 1 ≡ suc n = omega arith in
      map-map (noted_at table b n) (noted table b n) l
      ∙ map-alike (λ q. noted_at table b n (noted table b n q)) (noted table b (suc n)) (noted-more n) l
      ∙ ap (λ k. map (noted table b k) l) (sym e)
    where
      map-alike : {X : Type 0} (f g : X → X) → ((x : X) → f x ≡ g x) → (l : List X) → map f l ≡ map g l
      map-alike f g same l = ap (λ h. map h l) (λ i x. same x i)

-- ---- the request of a tag

pub find-there : (l : List FeatureRequest) (tag i : ℕ) (d : FeatureRequest) → KeysRise (λ q. q.tag.0) l
    → IsPlaceOf (λ q. q.tag.0) tag l i → find (λ q. q.tag.0 == tag) l ≡ Some (get_or l i d)
find-there [] tag i d ordered here = absurd (let within = here.0 in omega (arith, within))
find-there (q ∷ l) tag zero d ordered here =
    let own : q.tag.0 ≡ tag = here.1 q refl in
    let e : (q.tag.0 == tag) ≡ true = grind (arith, nat_tests, own) in
    rw e refl
find-there (q ∷ l) tag (suc i) d ordered here =
    let within = here.0 in
    let there = slice_get-get_or l i d (omega (arith, within)) in
    let low = ordered zero (suc i) q (get_or l i d) (omega arith) refl there in
    let own = here.1 (get_or l i d) there in
    let e : (q.tag.0 == tag) ≡ false = grind (arith, nat_tests, low, own) in
    rw e
    (find-there l tag i d (λ j k x y less isx isy. ordered (suc j) (suc k) x y (omega (arith, less)) isx isy)
    (omega (arith, within), λ x is. here.1 x is))

pub find-none : (l : List FeatureRequest) (tag i : ℕ) → IsGapFor (λ q. q.tag.0) tag l i → find (λ q. q.tag.0 == tag) l ≡ None
find-none l tag i gap = none_in l tag (λ j q is.
    let parts = gap.1 j q is in
    elim (cases_lt j i) [
      | inl before ↦ let low = parts.0 before in λ same. omega (arith, low, same)
      | inr behind ↦ let high = parts.1 behind in λ same. omega (arith, high, same)
    ])
  where
    none_in : (l : List FeatureRequest) (tag : ℕ) → ((j : ℕ) (q : FeatureRequest) → slice_get l j ≡ Some q → q.tag.0 ≢ tag)
        → find (λ q. q.tag.0 == tag) l ≡ None
    none_in [] tag other = refl
    none_in (q ∷ l) tag other =
        let ne = other zero q refl in
        let e : (q.tag.0 == tag) ≡ false = grind (arith, nat_tests, ne) in
        rw e (none_in l tag (λ j x is. other (suc j) x is))

pub ruleset notes = (noted_at-none, noted_at-other, noted_at-there)

pub ruleset finds = (find-there, find-none)
