-- Features that get their bits one after the other share none.
use Rattle.std.proofs.Common.{◌≡◌, ℕ, ◌+◌, ◌<◌, ◌≤◌, List, [], ◌∷◌, ◌++◌, Some, sym, ◌∙◌, ap, subst, arith, None, drop, get_or, length, map, slice_get, length-append, inl, inr, ◌⊎◌}
use Rattle.std.proofs.lemmas.Bool.{cases_lt}
use Rattle.std.proofs.lemmas.Option.{slice_get-get_or, slice_get_within, get_or_from_slice_get}
use Rattle.std.proofs.lemmas.List.{append_assoc, drop_more, get_or_append_left, get_or_push, map_push}
use Rattle.ot_map.specs.Allocation.{HasOwnBits, BitsAreApart, BitsAreInside}
use Rattle.ot_map.specs.AllocationSteps.{StandsFrom, IsNextBehind}
use Rattle.ot_map.specs.Features.{Planned, next_behind, planned, planned_features, seen}
use Rattle.ot_map.specs.declared.plan.PlannedFeature.{PlannedFeature}
use Rattle.ot_map.specs.declared.request.FeatureRequest.{FeatureRequest}

-- an element of a list with one more behind it is an element of the list, or that one
pub pushed : {X : Type 0} (xs : List X) (y x : X) (i : ℕ) → slice_get (xs ++ y ∷ []) i ≡ Some x
    → ((i < length xs) × (slice_get xs i ≡ Some x)) ⊎ ((i ≡ length xs) × (x ≡ y))
pushed xs y x i is =
    let value = get_or_from_slice_get (xs ++ y ∷ []) i x x is in
    elim (cases_lt i (length xs)) [
      | inl below ↦
          inl (below, slice_get-get_or xs i x below ∙ ap Some (sym (get_or_append_left xs (y ∷ []) x i below) ∙ value))
      | inr past ↦
          let within : i < length (xs ++ y ∷ []) = slice_get_within _ _ _ is in
          let longer : length (xs ++ y ∷ []) ≡ length xs + 1 = length-append xs (y ∷ []) in
          let last : i ≡ length xs = omega arith in
          inr (last, sym value ∙ get_or_push xs y x i (sym last))
    ]

-- the features so far, and the first bit that is free
pub record IsAllocated (features : List PlannedFeature) (next : ℕ) : Type 0 where
  pub apart : BitsAreApart features
  pub inside : BitsAreInside features
  pub below : (i : ℕ) (f : PlannedFeature) → slice_get features i ≡ Some f → HasOwnBits f → f.bits.shift + f.bits.count ≤ next
  pub low : 4 ≤ next
  pub high : next ≤ 30

pub IsAllocated-push : (features more : List PlannedFeature) (f : PlannedFeature) (next free : ℕ) → IsAllocated features next
    → StandsFrom next f → IsNextBehind f next free → more ≡ features ++ f ∷ [] → IsAllocated more free
IsAllocated-push features more f next free before stands behind items = subst (λ fs. IsAllocated fs free) (sym items) (record {
  apart = λ i j a b less isa isb owna ownb.
      elim (pushed features f b j isb) [
        | inl old ↦
            elim (pushed features f a i isa) [
              | inl first ↦ before.apart i j a b less first.1 old.1 owna ownb
              | inr last ↦ absurd (let place = last.0 in let under = old.0 in omega arith)
            ]
        | inr new ↦
            elim (pushed features f a i isa) [
              | inl first ↦
                  let under = before.below i a first.1 owna in
                  let own : HasOwnBits f = subst HasOwnBits new.1 ownb in
                  let start = (stands own).0 in
                  let whole : a.bits.shift + a.bits.count ≤ f.bits.shift = omega arith in
                  subst (λ (g : PlannedFeature). a.bits.shift + a.bits.count ≤ g.bits.shift) (sym new.1) whole
              | inr last ↦ absurd (let place = last.0 in let here = new.0 in omega arith)
            ]
      ];
  inside = λ i a isa owna.
      elim (pushed features f a i isa) [
        | inl first ↦ before.inside i a first.1 owna
        | inr last ↦
            let own : HasOwnBits f = subst HasOwnBits last.1 owna in
            let start = (stands own).0 in
            let high = (stands own).1 in
            let low = before.low in
            let whole : (4 ≤ f.bits.shift) × (f.bits.shift + f.bits.count ≤ 30) = (omega arith, omega arith) in
            subst (λ (g : PlannedFeature). (4 ≤ g.bits.shift) × (g.bits.shift + g.bits.count ≤ 30)) (sym last.1) whole
      ];
  below = λ i a isa owna.
      elim (pushed features f a i isa) [
        | inl first ↦
            let under = before.below i a first.1 owna in
            let up = behind.1 in
            omega arith
        | inr last ↦
            let own : HasOwnBits f = subst HasOwnBits last.1 owna in
            subst (λ (g : PlannedFeature). g.bits.shift + g.bits.count ≤ free) (sym last.1) (behind.2 own)
      ];
  low = let low = before.low in let up = behind.1 in omega arith;
  high = behind.0 before.high;
})

-- a request whose feature is planned, and one whose feature is not
pub append-planned_some : (features more : List PlannedFeature) (f : PlannedFeature) (next free i : ℕ) (d : FeatureRequest)
    (qs : List FeatureRequest) (whole : List Planned)
    → Some (seen f) ≡ planned next (get_or qs i d) → map seen features ++ planned_features next (drop i qs) ≡ whole
    → free ≡ next_behind next (seen f) → more ≡ features ++ f ∷ [] → i < length qs
    → map seen more ++ planned_features free (drop (i + 1) qs) ≡ whole
append-planned_some features more f next free i d qs whole there before behind items within =
    let opened = rw (drop_more qs i d within) at before in
    let now = rw (sym there) at opened in
    ap (λ l. map seen l ++ planned_features free (drop (i + 1) qs)) items
    ∙ ap (λ n. map seen (features ++ f ∷ []) ++ planned_features n (drop (i + 1) qs)) behind
    ∙ ap (λ l. l ++ planned_features (next_behind next (seen f)) (drop (i + 1) qs)) (map_push seen features f)
    ∙ append_assoc (map seen features) (seen f ∷ []) (planned_features (next_behind next (seen f)) (drop (i + 1) qs)) ∙ now

pub append-planned_none : (features : List PlannedFeature) (next i : ℕ) (d : FeatureRequest) (qs : List FeatureRequest)
    (whole : List Planned)
    → None ≡ planned next (get_or qs i d) → map seen features ++ planned_features next (drop i qs) ≡ whole → i < length qs
    → map seen features ++ planned_features next (drop (i + 1) qs) ≡ whole
append-planned_none features next i d qs whole none before within =
    let opened = rw (drop_more qs i d within) at before in
    rw (sym none) at opened
