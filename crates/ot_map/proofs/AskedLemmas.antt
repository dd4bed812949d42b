-- What is asked of a builder, one after the other: requests stay in the order of their tags, and two lists that are asked for are one.
use Rattle.std.proofs.Common.{◌≡◌, ◌≢◌, inl, inr, ℕ, zero, suc, ◌+◌, ◌<◌, Bool, List, [], ◌∷◌, ◌++◌, length, Some, slice_get, vec_len, nat_eq, get_or, map, take, sym, ap, subst, arith, refl, true, false, ◌==◌, ◌||◌, ◌∙◌, nat_lt, if◌then◌else◌}
use Rattle.std.proofs.lemmas.Bool.{cases_lt}
use Rattle.std.proofs.lemmas.List.{map_more}
use Rattle.std.proofs.lemmas.Bool.Decides.{nat_tests}
use Rattle.rb_common.specs.Tag.{tag_of}
use Rattle.rb_common.specs.declared.tag.Tag.{Tag}
use Rattle.ot_map.specs.Asked.{Ask, Request, EndStage, Asks, Collected, collected, has_feature, in_stages, named, nothing_yet, with_ask, with_asks}
use Rattle.rb_text.specs.declared.feature.Feature.{Feature}
use Rattle.ot_map.specs.CommonFeatures.{is_whole, user_feature}
use Rattle.ot_map.specs.Pauses.{HasSamePauses}
use Rattle.ot_map.specs.Requests.{AreInOrder, merged, no_flag, requested, with_request}
use Rattle.ot_map.specs.Tables.{lists_feature}
use Rattle.ot_map.specs.declared.builder.ChosenTable.{ChosenTable}
use Rattle.ot_map.specs.declared.builder.PlanBuilder.{PlanBuilder}
use Rattle.ot_map.specs.declared.plan.Pause.{Pause}
use Rattle.ot_map.specs.declared.plan.Pause.TheVariants.{Nothing}
use Rattle.ot_map.specs.declared.request.FeatureFlags.{FeatureFlags}
use Rattle.ot_map.specs.declared.request.FeatureRequest.{FeatureRequest}

-- ---- requests stay in order

-- all have higher tags
abbrev Above : ℕ → List FeatureRequest → Type 0
Above tag l = (j : ℕ) (x : FeatureRequest) → slice_get l j ≡ Some x → tag < x.tag.0

above_all : (tag : ℕ) (q : FeatureRequest) (l : List FeatureRequest) → tag < q.tag.0 → Above tag l → Above tag (q ∷ l)
above_all tag q l first rest zero x is = let e : q ≡ x = cc in subst (λ (y : FeatureRequest). tag < y.tag.0) e first
above_all tag q l first rest (suc j) x is = rest j x is

rises_all : (q : FeatureRequest) (l : List FeatureRequest) → AreInOrder l → Above q.tag.0 l → AreInOrder (q ∷ l)
rises_all q l rest above zero zero x y less isx isy = absurd (omega (arith, less))
rises_all q l rest above zero (suc j) x y less isx isy =
    let e : q ≡ x = cc in subst (λ (z : FeatureRequest). z.tag.0 < y.tag.0) e (above j y isy)
rises_all q l rest above (suc i) zero x y less isx isy = absurd (omega (arith, less))
rises_all q l rest above (suc i) (suc j) x y less isx isy = rest i j x y (omega (arith, less)) isx isy

merged_tag : (q later : FeatureRequest) → q.tag ≡ (merged q later).tag
unfolding merged
merged_tag q later = refl

-- what becomes of a list with one more request: its head has the tag, or a higher one, or a lower one
module _ (later q : FeatureRequest) (l : List FeatureRequest) where
  with_request-lower : q.tag.0 < later.tag.0 → with_request later (q ∷ l) ≡ q ∷ with_request later l
  with_request-lower lower =
      let other : (q.tag.0 == later.tag.0) ≡ false = grind (arith, nat_tests, lower) in
      let below : nat_lt later.tag.0 q.tag.0 ≡ false = grind (arith, nat_tests, lower) in
      rw (other, below) refl

  with_request-higher : later.tag.0 < q.tag.0 → with_request later (q ∷ l) ≡ later ∷ q ∷ l
  with_request-higher higher =
      let other : (q.tag.0 == later.tag.0) ≡ false = grind (arith, nat_tests, higher) in
      let below : nat_lt later.tag.0 q.tag.0 ≡ true = grind (arith, nat_tests, higher) in
      rw (other, below) refl

  with_request-same : q.tag.0 ≡ later.tag.0 → with_request later (q ∷ l) ≡ merged q later ∷ l
  with_request-same same =
      let t : (q.tag.0 == later.tag.0) ≡ true = grind (arith, nat_tests, same) in
      rw t refl

with_request-above : (tag : ℕ) (later : FeatureRequest) (l : List FeatureRequest) → tag < later.tag.0 → Above tag l
    → Above tag (with_request later l)
with_request-above tag later [] low above = above_all tag later [] low above
with_request-above tag later (q ∷ l) low above =
    elim (cases_lt q.tag.0 later.tag.0) [
      | inl lower ↦
          subst (Above tag) (sym (with_request-lower later q l lower))
          (above_all tag q (with_request later l) (above zero q refl)
          (with_request-above tag later l low (λ j x is. above (suc j) x is)))
      | inr last ↦
          elim (cases_lt later.tag.0 q.tag.0) [
            | inl higher ↦
                subst (Above tag) (sym (with_request-higher later q l higher)) (above_all tag later (q ∷ l) low above)
            | inr first ↦
                let same : q.tag.0 ≡ later.tag.0 = omega (arith, last, first) in
                subst (Above tag) (sym (with_request-same later q l same))
                (above_all tag (merged q later) l (subst (λ (t : Tag). tag < t.0) (merged_tag q later) (above zero q refl))
                (λ j x is. above (suc j) x is))
          ]
    ]

pub with_request-order : (later : FeatureRequest) (l : List FeatureRequest) → AreInOrder l → AreInOrder (with_request later l)
with_request-order later [] ordered = rises_all later [] ordered (λ j x is. cc)
with_request-order later (q ∷ l) ordered =
    let rest : AreInOrder l = λ i j x y less isx isy. ordered (suc i) (suc j) x y (omega (arith, less)) isx isy in
    let above : Above q.tag.0 l = λ j x is. ordered zero (suc j) q x (omega arith) refl is in
    elim (cases_lt q.tag.0 later.tag.0) [
      | inl lower ↦
          subst AreInOrder (sym (with_request-lower later q l lower))
          (rises_all q (with_request later l) (with_request-order later l rest) (with_request-above q.tag.0 later l lower above))
      | inr last ↦
          elim (cases_lt later.tag.0 q.tag.0) [
            | inl higher ↦
                subst AreInOrder (sym (with_request-higher later q l higher))
                (rises_all later (q ∷ l) ordered
                (above_all later.tag.0 q l higher (λ j x is. let low = above j x is in omega (arith, low, higher))))
            | inr first ↦
                let same : q.tag.0 ≡ later.tag.0 = omega (arith, last, first) in
                subst AreInOrder (sym (with_request-same later q l same))
                (rises_all (merged q later) l rest (subst (λ (t : Tag). Above t.0 l) (merged_tag q later) above))
          ]
    ]

with_ask-order : (ask : Ask) (c : Collected) → AreInOrder c.requests → AreInOrder (with_ask ask c).requests
with_ask-order (Request tag flags value) c ordered = by (nat_eq tag.0 0)
  where
    later : FeatureRequest
    later = requested tag flags value (length c.pauses)

    with_later : Collected
    with_later = record c { requests = with_request later c.requests }

    by : (null : Bool) → AreInOrder (if null then c else with_later).requests
    by true = ordered
    by false = with_request-order later c.requests ordered
with_ask-order (EndStage pause) c ordered = ordered

pub with_asks-order : (asks : List Ask) (c : Collected) → AreInOrder c.requests → AreInOrder (with_asks asks c).requests
with_asks-order [] c ordered = ordered
with_asks-order (ask ∷ asks) c ordered = with_asks-order asks (with_ask ask c) (with_ask-order ask c ordered)

-- ---- one list and then another

pub with_asks-append : (xs ys : List Ask) (c : Collected) → with_asks (xs ++ ys) c ≡ with_asks ys (with_asks xs c)
with_asks-append [] ys c = refl
with_asks-append (x ∷ xs) ys c = with_asks-append xs ys (with_ask x c)

pub asks_nothing : (a : PlanBuilder) → Asks [] a a
asks_nothing a = record { tables = (refl, refl); collects = λ ordered. refl }

pub asks_then : (xs ys : List Ask) (a b c : PlanBuilder) → Asks xs a b → Asks ys b c → Asks (xs ++ ys) a c
asks_then xs ys a b c first second = record {
  tables = (second.tables.0 ∙ first.tables.0, second.tables.1 ∙ first.tables.1);
  collects = λ ordered.
      let done = first.collects ordered in
      let still = subst (λ (it : Collected). AreInOrder it.requests) (sym done) (with_asks-order xs (collected a) ordered) in
      second.collects still ∙ ap (with_asks ys) done ∙ sym (with_asks-append xs ys (collected a));
}

-- the font has the same features
pub has_feature-same : (asks : List Ask) (a b : PlanBuilder) (tag : ℕ) → Asks asks a b → has_feature b tag ≡ has_feature a tag
has_feature-same asks a b tag done =
    ap (λ (gsub : ChosenTable). lists_feature gsub.lists.features.now gsub.system.now tag
    || lists_feature b.gpos.lists.features.now b.gpos.system.now tag) done.tables.0
    ∙ ap (λ (gpos : ChosenTable). lists_feature a.gsub.lists.features.now a.gsub.system.now tag
    || lists_feature gpos.lists.features.now gpos.system.now tag) done.tables.1

-- of a builder that has nothing yet
pub collected-first : (asks : List Ask) (a b : PlanBuilder) → Asks asks a b
    → (a.requests.items ≡ []) × (a.pauses.items ≡ []) → collected b ≡ with_asks asks nothing_yet
collected-first asks a b done empty =
    let ordered : AreInOrder a.requests.items = subst AreInOrder (sym empty.0) (λ i j x y less isx isy. cc) in
    let none : collected a ≡ nothing_yet = rw (empty.0, empty.1) refl in
    done.collects ordered ∙ ap (with_asks asks) none

-- ---- calls of a builder

-- what the clauses of `add_feature` say
pub asks_request : (a b : PlanBuilder) (tag : Tag) (flags : FeatureFlags) (value : ℕ) → HasSamePauses a b
    → (tag.0 ≡ 0 → b.requests.items ≡ a.requests.items)
    → (tag.0 ≢ 0 → AreInOrder a.requests.items
    → b.requests.items ≡ with_request (requested tag flags value (vec_len a.pauses)) a.requests.items)
    → Asks (Request tag flags value ∷ []) a b
asks_request a b tag flags value same null asked = record {
  tables = (same.1, same.2);
  collects = λ ordered. by ordered (nat_eq tag.0 0) refl;
}
  where
    later : FeatureRequest
    later = requested tag flags value (length a.pauses.items)

    pauses : b.pauses.items ≡ a.pauses.items
    pauses = ap (λ v. v.items) same.0

    together : (requests : List FeatureRequest) → b.requests.items ≡ requests
        → collected b ≡ record { requests = requests; pauses = a.pauses.items }
    together requests e = rw (e, pauses) refl

    by : AreInOrder a.requests.items → (is_null : Bool) → nat_eq tag.0 0 ≡ is_null
        → collected b ≡ (if is_null then collected a else record (collected a) { requests = with_request later a.requests.items })
    by ordered true e = together a.requests.items (null (grind (arith, nat_tests, e)))
    by ordered false e =
        let some : tag.0 ≢ 0 = λ zero_tag. grind (arith, nat_tests, e, zero_tag) in
        together (with_request later a.requests.items)
        (asked some ordered ∙ ap (λ n. with_request (requested tag flags value n) a.requests.items) a.pauses.ok.0)

-- a feature by its name
pub asks_named : (a b : PlanBuilder) (tag : Tag) (name : List ℕ) (flags : FeatureFlags) (value : ℕ) → tag.0 ≡ tag_of name
    → Asks (Request tag flags value ∷ []) a b → Asks (Request (named name) flags value ∷ []) a b
asks_named a b tag name flags value is asks =
    let e : tag ≡ named name = ap (λ n. record { 0 = n }) is in
    subst (λ t. Asks (Request t flags value ∷ []) a b) e asks

pub asks_by_name : (a b : PlanBuilder) (tag : Tag) (name : List ℕ) (flags : FeatureFlags) (value : ℕ) → tag.0 ≡ tag_of name
    → HasSamePauses a b → (tag.0 ≡ 0 → b.requests.items ≡ a.requests.items)
    → (tag.0 ≢ 0 → AreInOrder a.requests.items
    → b.requests.items ≡ with_request (requested tag flags value (vec_len a.pauses)) a.requests.items)
    → Asks (Request (named name) flags value ∷ []) a b
asks_by_name a b tag name flags value is same null asked =
    asks_named a b tag name flags value is (asks_request a b tag flags value same null asked)

-- a user's feature
pub asks_user : (a b : PlanBuilder) (feature : Feature) (whole : Bool) → whole ≡ is_whole feature
    → HasSamePauses a b → (feature.tag.0 ≡ 0 → b.requests.items ≡ a.requests.items)
    → (feature.tag.0 ≢ 0 → AreInOrder a.requests.items
    → b.requests.items
    ≡ with_request (requested feature.tag (record no_flag { is_global = whole }) feature.value (vec_len a.pauses)) a.requests.items)
    → Asks (user_feature feature ∷ []) a b
asks_user a b feature whole is same null asked =
    subst (λ w. Asks (Request feature.tag (record no_flag { is_global = w }) feature.value ∷ []) a b) is
    (asks_request a b feature.tag (record no_flag { is_global = whole }) feature.value same null asked)

pub asks_pause : (a b : PlanBuilder) (pause : Pause) → b.pauses.items ≡ a.pauses.items ++ (pause ∷ []) → b.requests ≡ a.requests
    → (b.gsub ≡ a.gsub) × (b.gpos ≡ a.gpos) → Asks (EndStage pause ∷ []) a b
asks_pause a b pause pauses requests tables = record {
  tables = tables;
  collects = λ ordered. rw (pauses, ap (λ v. v.items) requests) refl;
}

-- ---- lists of features

-- one more of a list
module _ {X : Type 0} (f : X → Ask) (l : List X) (i : ℕ) where
  pub asks_more : (d : X) (a b c : PlanBuilder) → i < length l → Asks (map f (take i l)) a b
      → Asks (f (get_or l i d) ∷ []) b c → Asks (map f (take (i + 1) l)) a c
  asks_more d a b c inside before one =
      subst (λ asks. Asks asks a c) (sym (map_more f l i d inside))
      (asks_then (map f (take i l)) (f (get_or l i d) ∷ []) a b c before one)

-- ---- features in stages of their own

in_stages-append : (xs ys : List Ask) → in_stages (xs ++ ys) ≡ in_stages xs ++ in_stages ys
in_stages-append [] ys = refl
in_stages-append (x ∷ xs) ys = ap (λ asks. x ∷ EndStage Nothing ∷ asks) (in_stages-append xs ys)

module _ {X : Type 0} (f : X → Ask) (l : List X) (i : ℕ) where
  pub stages_more : (d : X) (a b c : PlanBuilder) → i < length l → Asks (in_stages (map f (take i l))) a b
      → Asks (f (get_or l i d) ∷ EndStage Nothing ∷ []) b c → Asks (in_stages (map f (take (i + 1) l))) a c
  stages_more d a b c inside before one =
      subst (λ asks. Asks asks a c)
      (sym (ap in_stages (map_more f l i d inside) ∙ in_stages-append (map f (take i l)) (f (get_or l i d) ∷ [])))
      (asks_then (in_stages (map f (take i l))) (f (get_or l i d) ∷ EndStage Nothing ∷ []) a b c before one)
