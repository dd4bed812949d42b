-- The places of a match, one by one and as a list.
use Rattle.std.proofs.Common.{◌≡◌, ℕ, ◌+◌, ◌-◌, ◌<◌, ◌≤◌, Bool, true, false, List, length, sym, ap, ◌∙◌, arith, inl, inr}
use Rattle.std.proofs.lemmas.Bool.{cases_lt, cond-true, cond-false, lt-leb, lt-ltb, le-leb, le-ltb}
use Rattle.std.proofs.lemmas.List.{ext_get_or, length-map}
use Rattle.std.proofs.lemmas.List.FromFn.{get_or-map-range_with_len, length-range_with_len}
use Rattle.std.specs.List.{range_with_len}
use Rattle.std.specs.Prelude.{slice_index, nat_le, nat_lt, max, min, not, ◌&&◌}
use Rattle.ot_contexts.specs.MatchPositions.{AreAll, Match, followed, followed_end, followed_places, grown_place, is_full, moved_up, places_by, shrunk_place}

pub all_by : (f : ℕ → ℕ) (count : ℕ) (xs : List ℕ) → AreAll f count xs → xs ≡ places_by f count
all_by f count xs are =
    ext_get_or 0 xs (places_by f count)
    (are.count_of ∙ sym (length-map (range_with_len 0 count) f ∙ length-range_with_len 0 count))
    (λ k inside.
    let below : k < count = omega (arith, inside, are.count_of) in
    are.each k below ∙ sym (get_or-map-range_with_len f 0 count k k 0 below (omega arith)))

-- ---- a match that follows

abbrev match_with : List ℕ → ℕ → Match
match_with places end = record { places = places; end = end }

nat_le-not_lt : (n : ℕ) → nat_le n 64 ≡ not (nat_lt 64 n)
nat_le-not_lt n =
    elim (cases_lt 64 n) [
      | inl above ↦ lt-leb n 64 above ∙ ap not (sym (lt-ltb 64 n above))
      | inr within ↦ le-leb n 64 within ∙ ap not (sym (le-ltb 64 n within))
    ]

match_with-both : (p q : List ℕ) (d e : ℕ) → p ≡ q → d ≡ e → match_with p d ≡ match_with q e
match_with-both p q d e s t = ap (λ (l : List ℕ). match_with l d) s ∙ ap (λ k. match_with q k) t

module _ (m : Match) (number before after : ℕ) (places : List ℕ) (end : ℕ) where
  abbrev shrunk_by : ℕ → List ℕ
  shrunk_by taken = places_by (shrunk_place m.places number taken) (length m.places - taken)

  abbrev grown_by : ℕ → List ℕ
  grown_by added = places_by (grown_place m.places number added) (length m.places + added)

  pub followed-shrunk : after < before → end ≡ max (m.end - (before - after)) (slice_index m.places number)
      → places ≡ shrunk_by (min (m.end - end) (length m.places - (number + 1)))
      → match_with places end ≡ followed m number before after
  unfolding followed_places
  followed-shrunk less ends are =
      let fewer : nat_lt after before ≡ true = lt-ltb after before less in
      let not_more : nat_lt before after ≡ false = le-ltb before after (omega (arith, less)) in
      let at : end ≡ followed_end m.places m.end number before after = ends ∙ sym (cond-true _ _ _ fewer) in
      match_with-both places _ end _
      (are ∙ ap (λ e. shrunk_by (min (m.end - e) (length m.places - (number + 1)))) at ∙ sym (cond-true _ _ _ fewer)
      ∙ sym (cond-false _ _ _ (ap (λ b. b && nat_lt 64 (length m.places + (after - before))) not_more)))
      at

  -- not fewer
  module _ (rises : before ≤ after) (ends : end ≡ moved_up m.end (after - before)) where
    not_fewer : nat_lt after before ≡ false
    not_fewer = le-ltb after before rises

    end_at : end ≡ followed_end m.places m.end number before after
    end_at = ends ∙ sym (cond-false _ _ _ not_fewer)

    followed-grown : before < after → length m.places + (after - before) ≤ 64 → places ≡ grown_by (after - before)
        → match_with places end ≡ followed m number before after
    unfolding followed_places
    followed-grown less few are =
        let more : nat_lt before after ≡ true = lt-ltb before after less in
        let fits : is_full m before after ≡ false =
        ap (λ b. b && nat_lt 64 (length m.places + (after - before))) more
        ∙ le-ltb 64 (length m.places + (after - before)) few in
        match_with-both places _ end _ (are ∙ sym (cond-true _ _ _ more) ∙ sym (cond-false _ _ _ not_fewer) ∙ sym (cond-false _ _ _ fits)) end_at

    followed-full : before < after → 64 < length m.places + (after - before) → places ≡ m.places
        → match_with places end ≡ followed m number before after
    followed-full less many are =
        let more : nat_lt before after ≡ true = lt-ltb before after less in
        let full : is_full m before after ≡ true =
        ap (λ b. b && nat_lt 64 (length m.places + (after - before))) more
        ∙ lt-ltb 64 (length m.places + (after - before)) many in
        match_with-both places _ end _ (are ∙ sym (cond-true _ _ _ full)) end_at

    followed-same : before ≡ after → places ≡ m.places → match_with places end ≡ followed m number before after
    unfolding followed_places
    followed-same same are =
        let not_more : nat_lt before after ≡ false = le-ltb before after (omega (arith, same)) in
        match_with-both places _ end _
        (are ∙ sym (cond-false _ _ _ not_more) ∙ sym (cond-false _ _ _ not_fewer)
        ∙ sym (cond-false _ _ _ (ap (λ b. b && nat_lt 64 (length m.places + (after - before))) not_more)))
        end_at

    pub followed_by_grow : (0 < after - before → length m.places + (after - before) ≤ 64 → places ≡ grown_by (after - before))
        → (64 < length m.places + (after - before) → places ≡ m.places) → (after - before ≡ 0 → places ≡ m.places)
        → match_with places end ≡ followed m number before after
    followed_by_grow grown full same =
        elim (cases_lt before after) [
          | inl less ↦ elim (cases_lt 64 (length m.places + (after - before))) [
            | inl many ↦ followed-full less many (full many)
            | inr few ↦ followed-grown less few (grown (omega (arith, less)) few)
          ]
          | inr more ↦
              let e : before ≡ after = omega (arith, rises, more) in
              followed-same e (same (omega (arith, e)))
        ]

    pub on_by_grow : (result : Bool) → (0 < after - before → result ≡ nat_le (length m.places + (after - before)) 64)
        → (after - before ≡ 0 → result ≡ true) → result ≡ not (is_full m before after)
    on_by_grow result more same =
        elim (cases_lt before after) [
          | inl less ↦
              let is = more (omega (arith, less)) in
              let yes : nat_lt before after ≡ true = lt-ltb before after less in
              is ∙ nat_le-not_lt (length m.places + (after - before))
              ∙ ap (λ b. not (b && nat_lt 64 (length m.places + (after - before)))) (sym yes)
          | inr up ↦
              let e : before ≡ after = omega (arith, rises, up) in
              let no_more : nat_lt before after ≡ false = le-ltb before after (omega (arith, e)) in
              same (omega (arith, e)) ∙ ap (λ b. not (b && nat_lt 64 (length m.places + (after - before)))) (sym no_more)
        ]
