-- Fractions: where their digits stand, which slashes have any, and what their masks and marks leave.
use Rattle.std.proofs.Common.{◌≡◌, ℕ, suc, ◌+◌, ◌-◌, ◌<◌, ◌≤◌, Bool, true, false, List, ◌++◌, length, take, drop}
use Rattle.std.proofs.Common.{get_or, Some, eqb, bit_and, refl, sym, ap, ◌∙◌, arith, length-append, length-take, length-drop}
use Rattle.std.proofs.lemmas.Bool.{cond-true, cond-false, cond_both, eq-eqb, ne_eqb, ltb-false, and_from, and_left, and_right}
use Rattle.std.proofs.lemmas.Bool.{or_left, or_right, or_from, not_from_true, not_from_false}
use Rattle.std.proofs.lemmas.List.{get_or_past}
use Rattle.std.proofs.lemmas.List.Sums.{prefix_len-drop_yes, prefix_len-drop_no, prefix_len-drop_all}
use Rattle.std.proofs.lemmas.List.Sums.{suffix_len-take_yes, suffix_len-take_no}
use Rattle.rb_common.specs.declared.direction.Direction.{Direction}
use Rattle.rb_glyph.specs.declared.info.hb_glyph_info_t.{hb_glyph_info_t}
use Rattle.rb_glyph.specs.declared.scratch.TheConstants.{HB_BUFFER_SCRATCH_FLAG_HAS_NON_ASCII}
use Rattle.glyph_lists.specs.declared.glyph_flags.TheConstants.{BREAK_BITS}
use Rattle.glyph_lists.specs.Clusters.{clusters, least, zero_glyph}
use Rattle.glyph_lists.specs.Marks.{with_glyph_flags, mark, end_mark, ends}
use Rattle.glyph_lists.specs.Parts.{part, on_part, map_range, is_short}
use Rattle.glyph_lists.specs.Scans.{scan_of}
use Rattle.glyph_lists.proofs.PartsLemmas.{length-map_range, map-map_range}
use Rattle.glyph_lists.proofs.ScansLemmas.{length-part_scan}
use Rattle.shaping_buffer.specs.State.{State}
use Rattle.shaping_buffer.specs.ClusterStep.{any_order, both, both_place, range_end, scan, unsafe_to_break, unsafe_to_concat}
use Rattle.ot_map.specs.declared.shape_plan.OtShapePlan.{OtShapePlan}
use Rattle.ot_apply.specs.Masks.{is_digit, is_slash, digits_start, digits_end, mask_before, mask_behind, fraction_masked}
use Rattle.ot_apply.specs.Masks.{with_fraction, fraction_at, slash_at, fractions_before, with_fractions}

-- ---- digits

module _ (l : List hb_glyph_info_t) (n : ℕ) where
  pub digits_start-more : 0 < n → n ≤ length l → is_digit (get_or l (n - 1) zero_glyph) ≡ true
      → digits_start l (n - 1) ≡ digits_start l n
  unfolding digits_start
  digits_start-more some within passes = omega (arith, suffix_len-take_yes is_digit l n zero_glyph some within passes)

  pub digits_start-here : 0 < n → n ≤ length l → is_digit (get_or l (n - 1) zero_glyph) ≡ false → digits_start l n ≡ n
  unfolding digits_start
  digits_start-here some within fails = omega (arith, suffix_len-take_no is_digit l n zero_glyph some within fails)

  pub digits_start-none : n ≤ 0 → digits_start l n ≡ n
  unfolding digits_start
  digits_start-none none = omega arith

  pub digits_end-more : n < length l → is_digit (get_or l n zero_glyph) ≡ true → digits_end l (n + 1) ≡ digits_end l n
  unfolding digits_end
  digits_end-more within passes = omega (arith, prefix_len-drop_yes is_digit l n zero_glyph within passes)

  pub digits_end-here : n < length l → is_digit (get_or l n zero_glyph) ≡ false → digits_end l n ≡ n
  unfolding digits_end
  digits_end-here within fails = omega (arith, prefix_len-drop_no is_digit l n zero_glyph within fails)

  pub digits_end-none : length l ≤ n → digits_end l n ≡ n
  unfolding digits_end
  digits_end-none past = omega (arith, prefix_len-drop_all is_digit l n past)

pub ruleset digits = (
  digits_start-more,
  digits_start-here,
  digits_start-none,
  digits_end-more,
  digits_end-here,
  digits_end-none,
)

-- ---- a fraction

module _ (plan : OtShapePlan) (slash : ℕ) (s : State) where
  pub fraction_at-no_numerator : digits_start s.input slash ≡ slash
      → fraction_at plan slash s ≡ unsafe_to_concat (Some slash) (Some (slash + 1)) s
  unfolding fraction_at
  fraction_at-no_numerator alone = cond-true _ _ _ (or_left _ _ (eq-eqb (digits_start s.input slash) slash alone))

  pub fraction_at-no_denominator : digits_end s.input (slash + 1) ≡ slash + 1
      → fraction_at plan slash s ≡ unsafe_to_concat (Some slash) (Some (slash + 1)) s
  unfolding fraction_at
  fraction_at-no_denominator alone =
      cond-true _ _ _ (or_right _ _ (eq-eqb (digits_end s.input (slash + 1)) (slash + 1) alone))

  pub fraction_at-whole : (start end : ℕ) (marked new : State) → start ≡ digits_start s.input slash
      → end ≡ digits_end s.input (slash + 1) → (start ≡ slash → ⊥) → (end ≡ slash + 1 → ⊥)
      → marked ≡ unsafe_to_break (Some start) (Some end) s → new ≡ with_fraction plan start slash end marked
      → new ≡ fraction_at plan slash s
  unfolding fraction_at
  fraction_at-whole start end marked new from to some more kept masked =
      masked ∙ ap (with_fraction plan start slash end) kept
      ∙ ap (λ (i : ℕ). with_fraction plan i slash end (unsafe_to_break (Some i) (Some end) s)) from
      ∙ ap (λ (i : ℕ). with_fraction plan (digits_start s.input slash) slash i
      (unsafe_to_break (Some (digits_start s.input slash)) (Some i) s)) to
      ∙ sym (cond-false _ _ _ (or_from _ _ (ne_eqb (digits_start s.input slash) slash (λ e. some (from ∙ e)))
      (ne_eqb (digits_end s.input (slash + 1)) (slash + 1) (λ e. more (to ∙ e)))))

pub ruleset fractions = (fraction_at-no_numerator, fraction_at-no_denominator)

-- ---- the slashes of a text

module _ (plan : OtShapePlan) (place : ℕ) (s : State) where
  pub slash_at-yes : is_slash (get_or s.input place zero_glyph) ≡ true → slash_at plan place s ≡ fraction_at plan place s
  unfolding slash_at
  slash_at-yes is = cond-true _ _ _ is

  pub slash_at-no : is_slash (get_or s.input place zero_glyph) ≡ false → slash_at plan place s ≡ s
  unfolding slash_at
  slash_at-no isnt = cond-false _ _ _ isnt

  pub slash_at-past : length s.input ≤ place → slash_at plan place s ≡ s
  slash_at-past past = slash_at-no (ap is_slash (get_or_past s.input place zero_glyph past))

  pub fractions_before-more : (before after : State) → before ≡ fractions_before plan place s
      → after ≡ slash_at plan place before → after ≡ fractions_before plan (place + 1) s
  fractions_before-more before after is more =
      let next : suc place ≡ place + 1 = omega arith in
      more ∙ ap (slash_at plan place) is ∙ ap (λ (n : ℕ). fractions_before plan n s) next

pub ruleset slashes = (slash_at-yes, slash_at-no, slash_at-past)

module _ (plan : OtShapePlan) (s : State) where
  abbrev ascii_bit : ℕ
  ascii_bit = bit_and s.scratch_flags HB_BUFFER_SCRATCH_FLAG_HAS_NON_ASCII

  pub with_fractions-on : (ascii_bit ≡ 0 → ⊥) → plan.has_frac ≡ true
      → with_fractions plan s ≡ fractions_before plan (length s.input) s
  unfolding with_fractions
  with_fractions-on past on =
      cond-true _ _ _ (and_from _ _ (not_from_false (eqb ascii_bit 0) (ne_eqb ascii_bit 0 past)) on)

  pub with_fractions-ascii : ascii_bit ≡ 0 → with_fractions plan s ≡ s
  unfolding with_fractions
  with_fractions-ascii plain = cond-false _ _ _ (and_left _ _ (not_from_true (eqb ascii_bit 0) (eq-eqb ascii_bit 0 plain)))

  pub with_fractions-off : plan.has_frac ≡ false → with_fractions plan s ≡ s
  unfolding with_fractions
  with_fractions-off off = cond-false _ _ _ (and_right _ _ off)

pub ruleset texts = (with_fractions-on, with_fractions-ascii, with_fractions-off)

-- ---- marks leave as many glyphs

length-scan_of : (any : Bool) (bits : ℕ) (r : List hb_glyph_info_t) → length (scan_of any bits r) ≡ length r
unfolding scan_of mark end_mark
length-scan_of true bits r = length-part_scan true bits (least (clusters r)) r
length-scan_of false bits r = length-part_scan false bits (least (ends (clusters r))) r

length-on_part : (any : Bool) (bits : ℕ) (l : List hb_glyph_info_t) (p q : ℕ) → p ≤ q
    → length (on_part (scan_of any bits) l p q) ≡ length l
length-on_part any bits l p q up =
    let scanned = scan_of any bits (part l p q) in
    omega (
      arith,
      length-append (take p l ++ scanned) (drop q l),
      length-append (take p l) scanned,
      length-scan_of any bits (part l p q),
      length-take (q - p) (drop p l),
      length-drop p l,
      length-take p l,
      length-drop q l,
    )

length-scan : (any : Bool) (bits p q : ℕ) (s : State) → p ≤ q → length (scan any bits p q s).input ≡ length s.input
length-scan any bits p q s up =
    let marked = on_part (scan_of any bits) (both s) p q in
    length-drop (length s.out) marked ∙ omega (arith, length-on_part any bits (both s) p q up, length-append s.out s.input)

pub length-unsafe_to_break : (start end : ℕ) (s : State)
    → length (unsafe_to_break (Some start) (Some end) s).input ≡ length s.input
length-unsafe_to_break start end s =
    let last = range_end (Some end) s in
    cond_both (is_short start last) _ _ (λ (t : State). length t.input ≡ length s.input) (λ _. refl)
    (λ long. let two : 2 ≤ last - start = ltb-false (last - start) 2 long in
    length-scan (any_order s) BREAK_BITS (both_place s start) (both_place s last) s (omega (arith, two)))

-- ---- masks of a fraction

module _ (plan : OtShapePlan) (direction : Direction) (start slash end : ℕ) (l : List hb_glyph_info_t) (before : start ≤ slash)
    (behind : slash < end) where
  abbrev first : List hb_glyph_info_t
  first = map_range (with_glyph_flags (mask_before plan direction)) l start slash

  abbrev second : List hb_glyph_info_t
  second = map_range (with_glyph_flags plan.frac_mask) first slash (slash + 1)

  one : slash ≤ slash + 1
  one = omega arith

  last : slash + 1 ≤ end
  last = omega arith

  pub length-fraction_masked : length (fraction_masked plan direction start slash end l) ≡ length l
  unfolding fraction_masked
  length-fraction_masked =
      length-map_range (with_glyph_flags (mask_behind plan direction)) second (slash + 1) end last
      ∙ length-map_range (with_glyph_flags plan.frac_mask) first slash (slash + 1) one
      ∙ length-map_range (with_glyph_flags (mask_before plan direction)) l start slash before

  same_cluster : (mask : ℕ) (g : hb_glyph_info_t) → (with_glyph_flags mask g).cluster ≡ g.cluster
  unfolding with_glyph_flags
  same_cluster mask g = refl

  pub clusters-fraction_masked : clusters (fraction_masked plan direction start slash end l) ≡ clusters l
  unfolding fraction_masked
  clusters-fraction_masked =
      map-map_range (λ (g : hb_glyph_info_t). g.cluster) (with_glyph_flags (mask_behind plan direction))
      (same_cluster (mask_behind plan direction)) second (slash + 1) end last
      ∙ map-map_range (λ (g : hb_glyph_info_t). g.cluster) (with_glyph_flags plan.frac_mask)
      (same_cluster plan.frac_mask) first slash (slash + 1) one
      ∙ map-map_range (λ (g : hb_glyph_info_t). g.cluster) (with_glyph_flags (mask_before plan direction))
      (same_cluster (mask_before plan direction)) l start slash before
