-- Marks above a base that end at a place, and where the ring of AM goes.
use Rattle.std.proofs.Common.{◌≡◌, ℕ, ◌+◌, ◌-◌, ◌<◌, ◌≤◌, Bool, true, false, List, length, get_or, take, Some, eqb, sym, ◌∙◌, ap, inl, inr, arith}
use Rattle.std.proofs.lemmas.List.{get_or_default, get_or-take, length-take-le}
use Rattle.std.proofs.lemmas.List.Sums.{suffix_len_is}
use Rattle.std.proofs.lemmas.Bool.{cases_lt, cond-true, cond-false, le-ltb, lt-ltb, le-leb, lt-leb, eq-eqb, ne_eqb, and_from, and_left, and_right}
use Rattle.std.proofs.lemmas.Bool.{not_from_true, not_from_false}
use Rattle.std.specs.Prelude.{nat_lt}
use Rattle.std.specs.List.{suffix_len}
use Rattle.glyph_lists.specs.Clusters.{zero_glyph}
use Rattle.shaping_buffer.specs.State.{State, len}
use Rattle.shaping_buffer.specs.ClusterStep.{merge_out_clusters, unsafe_to_break}
use Rattle.rb_glyph.specs.declared.info.hb_glyph_info_t.{hb_glyph_info_t}
use Rattle.script_letters.specs.Thai.{is_above_base, above_start, kept_to_base, ring_moved, ring_merged, ring_placed, ring_in_place}

-- the items from a place to another are such marks
abbrev pub AreAbove : List hb_glyph_info_t → ℕ → ℕ → Type 0
AreAbove l start end = (k : ℕ) (d : hb_glyph_info_t) → start ≤ k → k < end → is_above_base (get_or l k d).glyph_id ≡ true

-- one mark more
pub above_more : (l : List hb_glyph_info_t) (start end : ℕ) (test : Bool) (e : hb_glyph_info_t) → 0 < start
    → start ≤ length l → test ≡ is_above_base (get_or l (start - 1) e).glyph_id → test ≡ true
    → AreAbove l start end → AreAbove l (start - 1) end
above_more l start end test e some within is passes above k d low high =
    elim (cases_lt k start) [
      | inl below ↦ let here : k ≡ start - 1 = omega arith in
          rw here
          (ap (λ (g : hb_glyph_info_t). is_above_base g.glyph_id) (get_or_default l (start - 1) d e (omega arith)) ∙ sym is ∙ passes)
      | inr later ↦ above k d later high
    ]

-- the marks from a place to another are all that end there
pub above_start_is : (l : List hb_glyph_info_t) (start end : ℕ) → start ≤ end → end ≤ length l → AreAbove l start end
    → ((d : hb_glyph_info_t) → 0 < start → is_above_base (get_or l (start - 1) d).glyph_id ≡ false)
    → start ≡ above_start l end
above_start_is l start end order within above longest =
    let long : length (take end l) ≡ end = length-take-le end l within in
    let those : suffix_len (λ (g : hb_glyph_info_t). is_above_base g.glyph_id) (take end l) ≡ length (take end l) - start =
    suffix_len_is (λ (g : hb_glyph_info_t). is_above_base g.glyph_id) (take end l) start zero_glyph (omega (arith, long, order))
    (λ k from to.
    let before : k < end = omega (arith, to, long) in
    ap (λ (g : hb_glyph_info_t). is_above_base g.glyph_id) (get_or-take end l k zero_glyph before) ∙ above k zero_glyph from before)
    (λ some.
    let before : start - 1 < end = omega (arith, some, order) in
    ap (λ (g : hb_glyph_info_t). is_above_base g.glyph_id) (get_or-take end l (start - 1) zero_glyph before) ∙ longest zero_glyph some) in
    omega (arith, those, long, order)

-- where the ring goes, as it was found
pub ring_in_place-more : (s new : State) (l : List hb_glyph_info_t) (end start : ℕ) → end ≡ length s.out → 2 ≤ end → l ≡ s.out
    → start ≤ end - 2 → AreAbove l start (end - 2)
    → ((d : hb_glyph_info_t) → 0 < start → is_above_base (get_or l (start - 1) d).glyph_id ≡ false)
    → new ≡ ring_placed start end s → new ≡ ring_in_place (length s.out) s
ring_in_place-more s new l end start is two are order above longest placed =
    let within : end - 2 ≤ length l = omega (arith, is, ap length are) in
    let at : start ≡ above_start s.out (end - 2) =
    above_start_is l start (end - 2) order within above longest ∙ ap (λ (xs : List hb_glyph_info_t). above_start xs (end - 2)) are in
    placed
    ∙ ap (λ (p : ℕ). ring_placed p end s) at
    ∙ sym (cond-false (nat_lt end 2) s (ring_placed (above_start s.out (end - 2)) end s) (le-ltb end 2 two))
    ∙ ap (λ (n : ℕ). ring_in_place n s) is

-- ---- what is done, by what holds

module _ (start end : ℕ) (s : State) where
  pub ring_in_place-few : length s.out < 2 → ring_in_place (length s.out) s ≡ s
  ring_in_place-few few = cond-true (nat_lt (length s.out) 2) _ _ (lt-ltb (length s.out) 2 few)

  pub ring_placed-marks : start + 2 < end → ring_placed start end s ≡ ring_moved start end s
  unfolding ring_placed
  ring_placed-marks some = cond-true _ _ _ (lt-ltb (start + 2) end some)

  pub ring_placed-none : end ≤ start + 2 → ring_placed start end s ≡ ring_merged start end s
  unfolding ring_placed
  ring_placed-none none = cond-false _ _ _ (le-ltb (start + 2) end none)

  pub ring_merged-yes : (start ≡ 0 → ⊥) → s.cluster_level ≡ 0 → ring_merged start end s ≡ merge_out_clusters (start - 1) end s
  unfolding ring_merged
  ring_merged-yes some graphemes =
      cond-true _ _ _ (and_from _ _ (not_from_false (eqb start 0) (ne_eqb start 0 some)) (eq-eqb s.cluster_level 0 graphemes))

  pub ring_merged-first : start ≡ 0 → ring_merged start end s ≡ s
  unfolding ring_merged
  ring_merged-first none = cond-false _ _ _ (and_left _ _ (not_from_true (eqb start 0) (eq-eqb start 0 none)))

  pub ring_merged-level : (s.cluster_level ≡ 0 → ⊥) → ring_merged start end s ≡ s
  unfolding ring_merged
  ring_merged-level other = cond-false _ _ _ (and_right _ _ (ne_eqb s.cluster_level 0 other))

  pub kept_to_base-some : start ≤ end → end ≤ len s → kept_to_base start end s ≡ unsafe_to_break (Some start) (Some end) s
  unfolding kept_to_base
  kept_to_base-some order within = cond-true _ _ _ (and_from _ _ (le-leb start end order) (le-leb end (len s) within))

  pub kept_to_base-order : end < start → kept_to_base start end s ≡ s
  unfolding kept_to_base
  kept_to_base-order order = cond-false _ _ _ (and_left _ _ (lt-leb start end order))

  pub kept_to_base-past : len s < end → kept_to_base start end s ≡ s
  unfolding kept_to_base
  kept_to_base-past past = cond-false _ _ _ (and_right _ _ (lt-leb end (len s) past))

pub ruleset rings = (
  ring_in_place-few,
  ring_placed-marks,
  ring_placed-none,
  ring_merged-yes,
  ring_merged-first,
  ring_merged-level,
)

pub ruleset bases = (kept_to_base-some, kept_to_base-order, kept_to_base-past)
