-- What the steps of calls keep of both sides: what readings and merges keep, they keep.
use Rattle.std.proofs.Common.{◌≡◌, ℕ, ◌+◌, ◌-◌, ◌<◌, ◌≤◌, Bool, true, false, cond, List, [], ◌∷◌, ◌++◌, length}
use Rattle.std.proofs.Common.{length-append, map, take, drop, sym, ap, ◌∙◌, subst, arith, eqb, ltb, leb, append_assoc}
use Rattle.std.proofs.lemmas.Bool.{cond_both, cond-true, cond-false, ltb-true}
use Rattle.std.proofs.lemmas.List.{take-append-drop}
use Rattle.std.specs.Prelude.{Some, slice_index_or}
use Rattle.rb_glyph.specs.declared.info.hb_glyph_info_t.{hb_glyph_info_t}
use Rattle.glyph_lists.specs.Parts.{part, on_part, map_range}
use Rattle.glyph_lists.specs.Clusters.{zero_glyph, run_merge}
use Rattle.glyph_lists.specs.Marks.{with_glyph_flags}
use Rattle.glyph_lists.specs.Scans.{scan_of, two_part_scan}
use Rattle.glyph_lists.specs.Deletion.{merge_or_mark, deletion}
use Rattle.glyph_lists.specs.Replacement.{replacement}
use Rattle.glyph_lists.specs.GlyphFlags.{BreakImpliesConcat}
use Rattle.glyph_lists.proofs.ScansLemmas.{two_part_scan-none}
use Rattle.shaping_buffer.specs.State.{State, len}
use Rattle.shaping_buffer.specs.Step.{Outcome, limited, put_out, skip_glyphs, next_glyphs, replace_glyphs, move_to}
use Rattle.shaping_buffer.specs.Step.{split_at, with_id, skip_glyph, replace_glyph, output_glyph, copy_glyph, sync}
use Rattle.shaping_buffer.specs.Step.{glyph_to_copy}
use Rattle.shaping_buffer.specs.ClusterStep.{both, with_both, both_place, floor_of, any_order, merge_sides}
use Rattle.shaping_buffer.specs.ClusterStep.{merge_out_clusters, scan, plain_scan, scan_sides, flag_all, range_end}
use Rattle.shaping_buffer.proofs.ReplacementLemmas.{front_replaced, replace_glyphs-sides, replaced_both}

-- ---- conditions in words of numbers

-- an end in the list is not cut
pub range_end-some : (end : ℕ) (s : State) → end ≤ len s → range_end (Some end) s ≡ end
range_end-some end s h = omega arith

pub place_within : (have_output : Bool) (idx n end : ℕ) → end ≤ cond have_output (idx + n) n
    → end - cond have_output idx 0 ≤ n
place_within true idx n end h = omega arith
place_within false idx n end h = omega arith

pub front_left : (have_output : Bool) (idx n a : ℕ) → have_output ≡ true → a ≤ cond have_output (idx + n) n - idx
    → a ≤ n
front_left true idx n a e h = omega arith
front_left false idx n a e h = cc

pub glyph_left : (have_output : Bool) (idx n : ℕ) → have_output ≡ true → ltb idx (cond have_output (idx + n) n) ≡ true
    → 0 < n
glyph_left true idx n e h = omega (arith, ltb-true idx (idx + n) h)
glyph_left false idx n e h = cc

-- ---- what steps keep

-- P holds of both sides after each step that drops no glyph, where it held before. Merges are held back only by floors
-- that this allows.
pub record KeepingSteps (P : List hb_glyph_info_t → Type 0) (Floor : ℕ → Type 0) : Type 0 where
  pub lowest : Floor 0
  pub renamed : (id : ℕ) (out input : List hb_glyph_info_t) → P (out ++ input)
      → P ((out ++ map (with_id id) (take 1 input)) ++ drop 1 input)
  pub copied : (id : ℕ) (out input : List hb_glyph_info_t) → P (out ++ input)
      → P ((out ++ map (with_id id) (cond (eqb (length input) 0) (drop (length out - 1) out) (take 1 input))) ++ input)
  pub doubled : (out input : List hb_glyph_info_t) → P (out ++ input) → P ((out ++ take 1 input) ++ input)
  pub after_merge : (any_order : Bool) (l : List hb_glyph_info_t) (p q floor : ℕ) → Floor floor → q ≤ length l
      → P l → P (merge_or_mark any_order l p q floor)
  pub after_scan : (any_order : Bool) (bits k : ℕ) → BreakImpliesConcat bits → (l : List hb_glyph_info_t) (p q : ℕ)
      → p ≤ q
      → P l → P (on_part (two_part_scan any_order bits k) l p q)
  pub after_mark : (bits : ℕ) → BreakImpliesConcat bits → (l : List hb_glyph_info_t) (p q : ℕ) → p ≤ q
      → P l → P (map_range (with_glyph_flags bits) l p q)

-- and after each step that may drop some
pub record StepsKeep (P : List hb_glyph_info_t → Type 0) (Floor : ℕ → Type 0) : Type 0 where
  pub keeping : KeepingSteps P Floor
  pub cleared : (out input : List hb_glyph_info_t) → P (out ++ input) → P input
  pub dropped : (out input : List hb_glyph_info_t) → P (out ++ input) → P (out ++ drop 1 input)
  pub after_replacement : (any_order : Bool) (l : List hb_glyph_info_t) (p q : ℕ) (ids : List ℕ) → p ≤ q → q ≤ length l
      → p < length l → P l → P (replacement any_order l p q ids)
  pub after_deletion : (any_order : Bool) (out : List hb_glyph_info_t) (x : hb_glyph_info_t)
      (rest : List hb_glyph_info_t)
      → P (out ++ x ∷ rest) → P ((deletion any_order out x rest).out ++ (deletion any_order out x rest).rest)

-- ---- calls that drop no glyph

module _ (P : List hb_glyph_info_t → Type 0) (Floor : ℕ → Type 0) (steps : KeepingSteps P Floor) where
  pub limited_keeps : (held : ℕ) (before new : State) → P (both before) → P (both new)
      → P (both (limited held before new).state)
  limited_keeps held before new h h2 =
      cond_both (leb held before.max_len) _ _ (λ (o : Outcome). P (both o.state)) (λ _. h2) (λ _. h)

  pub put_out_keeps : (xs : List hb_glyph_info_t) (s after : State) → P (both s) → P ((after.out ++ xs) ++ after.input)
      → P (both (put_out xs s after).state)
  put_out_keeps xs s after h h2 = limited_keeps (length (s.out ++ xs)) s (record after { out = after.out ++ xs }) h h2

  -- glyphs are put out in place of the first n
  pub put_for_keeps : (n : ℕ) (xs : List hb_glyph_info_t) (s : State) → s.have_output ≡ true → P (both s)
      → P ((s.out ++ xs) ++ drop n s.input)
      → P (both (put_out xs s (skip_glyphs n s)).state)
  put_for_keeps n xs s e h h2 =
      put_out_keeps xs s (skip_glyphs n s) h
      (subst (λ l. P ((s.out ++ xs) ++ l)) (sym (cond-true s.have_output (drop n s.input) s.input e)) h2)

  pub next_keeps : (n : ℕ) (s : State) → P (both s) → P (both (next_glyphs n s).state)
  next_keeps n s h =
      cond_both s.have_output _ _ (λ (o : Outcome). P (both o.state))
      (λ open_now. put_for_keeps n (take n s.input) s open_now h
      (subst P (sym (append_assoc s.out (take n s.input) (drop n s.input)
      ∙ ap (λ l. s.out ++ l) (take-append-drop n s.input))) h))
      (λ closed_now. subst (λ l. P (s.out ++ l)) (sym (cond-false s.have_output (drop n s.input) s.input closed_now)) h)

  pub move_keeps : (place : ℕ) (s : State) → P (both s) → P (both (move_to place s).state)
  move_keeps place s h =
      cond_both s.have_output _ _ (λ (o : Outcome). P (both o.state))
      (λ _. cond_both s.successful _ _ (λ (o : Outcome). P (both o.state))
      (λ _. limited_keeps _ s (split_at place s) h (subst P (sym (take-append-drop place (both s))) h)) (λ _. h))
      (λ _. h)

  -- another list in the place of both sides
  pub with_both_keeps : (l : List hb_glyph_info_t) (s : State) → P l → P (both (with_both l s))
  with_both_keeps l s h = subst P (sym (take-append-drop (length s.out) l)) h

  pub merge_keeps : (any_order : Bool) (start end : ℕ) (s : State) → end ≤ len s → Floor (floor_of s) → P (both s)
      → P (both (merge_sides any_order (both_place s start) (both_place s end) s))
  merge_keeps any_order start end s in_len floor h =
      let low = place_within s.have_output s.idx (length s.input) end in_len in
      with_both_keeps (merge_or_mark any_order (both s) (both_place s start) (both_place s end) (floor_of s)) s
      (steps.after_merge any_order (both s) (both_place s start) (both_place s end) (floor_of s) floor
      (omega (arith, low, length-append s.out s.input)) h)

  pub merge_out_keeps : (start end : ℕ) (s : State) → end ≤ length s.out → P (both s)
      → P (both (merge_out_clusters start end s))
  unfolding merge_or_mark
  merge_out_keeps start end s in_out h =
      with_both_keeps (cond (any_order s) (both s) (run_merge (both s) start end 0)) s
      (cond_both (any_order s) _ _ P (λ _. h)
      (λ _. steps.after_merge false (both s) start end 0 steps.lowest (omega (arith, length-append s.out s.input))
      h))

  -- the calls

  pub rename_keeps : (id : ℕ) (s : State) → s.have_output ≡ true → P (both s) → P (both (replace_glyph id s).state)
  rename_keeps id s e h =
      put_for_keeps 1 (map (with_id id) (take 1 s.input)) s e h (steps.renamed id s.out s.input h)

  pub output_keeps : (id : ℕ) (s : State) → P (both s) → P (both (output_glyph id s).state)
  output_keeps id s h = put_out_keeps (map (with_id id) (glyph_to_copy s)) s s h (steps.copied id s.out s.input h)

  pub copy_keeps : (s : State) → P (both s) → P (both (copy_glyph s).state)
  copy_keeps s h = put_out_keeps (take 1 s.input) s s h (steps.doubled s.out s.input h)

  pub sync_keeps : (s : State) → P (both s) → P (both (sync s).state)
  sync_keeps s h = cond_both s.successful _ _ (λ (o : Outcome). P (both o.state))
      (λ _. limited_keeps (length (s.out ++ s.input)) s
      (record s { have_output = false; have_separate_output = false; out = []; input = s.out ++ s.input; idx = 0 })
      h h) (λ _. h)

  module _ (bits : ℕ) (safe : BreakImpliesConcat bits) (s : State) (h : P (both s)) where
    pub scan_keeps : (p q : ℕ) → p ≤ q → P (both (scan (any_order s) bits p q s))
    scan_keeps p q up =
        with_both_keeps (on_part (scan_of (any_order s) bits) (both s) p q) s
        (subst (λ xs. P (take p (both s) ++ xs ++ drop q (both s)))
        (two_part_scan-none (any_order s) bits (part (both s) p q))
        (steps.after_scan (any_order s) bits 0 safe (both s) p q up h))

    pub plain_scan_keeps : (start end : ℕ) → start ≤ end → P (both (plain_scan (any_order s) bits start end s))
    plain_scan_keeps start end up =
        cond_both (ltb (end - start) 2) _ _ (λ (t : State). P (both t)) (λ _. h)
        (λ _. scan_keeps (both_place s start) (both_place s end) (omega arith))

    pub scan_sides_keeps : (p q : ℕ) → p ≤ q → P (both (scan_sides (any_order s) bits p q s))
    scan_sides_keeps p q up =
        with_both_keeps (on_part (two_part_scan (any_order s) bits (length s.out - p)) (both s) p q) s
        (steps.after_scan (any_order s) bits (length s.out - p) safe (both s) p q up h)

    pub flag_all_keeps : (p q : ℕ) → p ≤ q → P (both (flag_all bits p q s))
    flag_all_keeps p q up = with_both_keeps (map_range (with_glyph_flags bits) (both s) p q) s
        (steps.after_mark bits safe (both s) p q up h)

-- ---- calls that may drop some

module _ (P : List hb_glyph_info_t → Type 0) (Floor : ℕ → Type 0) (steps : StepsKeep P Floor) where
  pub skip_keeps : (s : State) → P (both s) → P (both (skip_glyph s))
  skip_keeps s h = cond_both s.have_output _ _ (λ (l : List hb_glyph_info_t). P (s.out ++ l))
      (λ _. steps.dropped s.out s.input h) (λ _. h)

  pub replace_keeps : (n : ℕ) (ids : List ℕ) (s : State) → s.have_output ≡ true → 0 < length s.input → n ≤ length s.input
      → P (both s) → P (both (replace_glyphs n ids s).state)
  replace_keeps n ids s e some within h =
      let size = length-append s.out s.input in
      subst (λ (o : Outcome). P (both o.state)) (sym (replace_glyphs-sides n ids s e))
      (limited_keeps P Floor steps.keeping (length s.out + length ids) s (front_replaced n ids s) h
      (subst P (sym (replaced_both n ids s))
      (steps.after_replacement (any_order s) (both s) (length s.out) (length s.out + n) ids (omega arith)
      (omega arith) (omega arith) h)))

  pub delete_keeps : (any_order : Bool) (out input : List hb_glyph_info_t) → 0 < length input → P (out ++ input)
      → P ((deletion any_order out (slice_index_or input 0 zero_glyph) (drop 1 input)).out
      ++ (deletion any_order out (slice_index_or input 0 zero_glyph) (drop 1 input)).rest)
  delete_keeps any_order out [] some h = absurd (omega arith)
  delete_keeps any_order out (x ∷ rest) some h = steps.after_deletion any_order out x rest h
