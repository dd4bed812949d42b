-- Merges, marks and the least cluster, said of calls.
use Rattle.std.proofs.Common.{◌≡◌, ◌↔◌, ◌⊎◌, ℕ, ◌+◌, ◌-◌, ◌<◌, ◌≤◌, inl, inr, Bool, true, false, cond, List, [], ◌∷◌}
use Rattle.std.proofs.Common.{◌++◌, length, get_or, take, drop, refl, sym, ap, ◌∙◌, subst, arith, ltb, leb}
use Rattle.std.proofs.Common.{length-append}
use Rattle.std.proofs.lemmas.Bool.{cond_both, cond-true, cond-false, and_parts, leb-true, ltb-true, eq-eqb, not-true}
use Rattle.std.proofs.lemmas.List.{take-append-drop, length-take-le}
use Rattle.rb_glyph.specs.declared.info.hb_glyph_info_t.{hb_glyph_info_t}
use Rattle.glyph_lists.specs.Parts.{part, on_part}
use Rattle.glyph_lists.specs.Clusters.{clusters, least, occurs, zero_glyph, cluster_merge, run_merge, IsMonotone}
use Rattle.glyph_lists.specs.Marks.{mark}
use Rattle.glyph_lists.specs.Scans.{scan_of, two_part_scan}
use Rattle.glyph_lists.specs.Deletion.{merge_or_mark, deletion}
use Rattle.glyph_lists.specs.Replacement.{replacement}
use Rattle.glyph_lists.specs.declared.glyph_flags.TheConstants.{BREAK_BITS}
use Rattle.glyph_lists.proofs.PartsLemmas.{length-part, append-part}
use Rattle.glyph_lists.proofs.ClustersLemmas.{IsContiguous-from_monotone}
use Rattle.glyph_lists.proofs.MergesLemmas.{run_merge_is_cluster_merge, merge_shares, merge_stays}
use Rattle.glyph_lists.proofs.SidesLemmas.{merge_or_mark_merges}
use Rattle.glyph_lists.proofs.LengthsLemmas.{length-deletion}
use Rattle.glyph_laws.proofs.MarksLemmas.{end_mark_is_mark, append-mark_part}
use Rattle.glyph_laws.proofs.ReadingsLemmas.{monotone_reading, reading_part}
use Rattle.glyph_laws.proofs.NumbersLemmas.{least-deletion}
use Rattle.glyph_laws.proofs.ReplacementLemmas.{least-replacement}
use Rattle.shaping_buffer.specs.State.{State, len, lookahead_len}
use Rattle.shaping_buffer.specs.Step.{Outcome}
use Rattle.shaping_buffer.specs.ClusterLevel.{groups_graphemes}
use Rattle.shaping_buffer.specs.ClusterStep.{both, both_place, any_order, floor_of, range_start, range_end}
use Rattle.shaping_buffer.specs.ClusterStep.{is_input_range, merge_sides, unsafe_to_break}
use Rattle.std.specs.Prelude.{Some}
use Rattle.shaping_buffer.proofs.ReplacementLemmas.{replace_glyphs-sides, replaced_both}
use Rattle.shaping_runs.specs.declared.call.Call.{Call}
use Rattle.shaping_runs.specs.declared.call.Call.TheVariants.{ClearOutput, NextGlyph, NextGlyphs, SkipGlyph}
use Rattle.shaping_runs.specs.declared.call.Call.TheVariants.{ReplaceGlyph, ReplaceGlyphs, OutputGlyph, OutputInfo}
use Rattle.shaping_runs.specs.declared.call.Call.TheVariants.{CopyGlyph, MoveTo, Sync, DeleteGlyph, MergeClusters}
use Rattle.shaping_runs.specs.declared.call.Call.TheVariants.{MergeOutClusters, UnsafeToBreak}
use Rattle.shaping_runs.specs.declared.call.Call.TheVariants.{UnsafeToBreakFromOutbuffer, SafeToInsertTatweel}
use Rattle.shaping_runs.specs.declared.call.Call.TheVariants.{UnsafeToConcat, UnsafeToConcatFromOutbuffer}
use Rattle.shaping_runs.specs.declared.call.Call.TheVariants.{MergeGraphemeClusters}
use Rattle.shaping_runs.specs.Replay.{Turn, turn, may_be_made, outcome_of, has_glyph}
use Rattle.shaping_runs.specs.Headline.{HasMonotoneClusters, ReachesBothSides, is_merge, is_break, from_place, to_place}
use Rattle.shaping_runs.specs.Headline.{range_of}
use Rattle.shaping_buffer.proofs.Steps.{place_within, front_left, glyph_left, range_end-some}
use Rattle.shaping_runs.proofs.Steps.{input_within, input_order}

-- what a call leaves within its condition
both-turn : (call : Call) (s : State) → may_be_made call s ≡ true
    → both (turn call s).state ≡ both (outcome_of call s).state
both-turn call s e = ap (λ (t : Turn). both t.state) (cond-true (may_be_made call s) _ _ e)

-- ---- merges

floor_of-zero : (s : State) → ReachesBothSides s → floor_of s ≡ 0
floor_of-zero s (inl opened) = cond-true s.have_output 0 s.idx opened
floor_of-zero s (inr at_start) = cond_both s.have_output 0 s.idx (λ k. k ≡ 0) (λ _. refl) (λ _. at_start)

-- a place of the input lies in both sides
place_in : (s : State) (k : ℕ) → k ≤ len s → both_place s k ≤ length (both s)
place_in s k h = omega (arith, place_within s.have_output s.idx (length s.input) k h, length-append s.out s.input)

module _ (s : State) (mono : HasMonotoneClusters s) where
  merged_part : (p q : ℕ) → q ≤ length (both s) → run_merge (both s) p q 0 ≡ cluster_merge (both s) (part (both s) p q)
  merged_part p q in_l = run_merge_is_cluster_merge (both s) p q in_l (IsContiguous-from_monotone (both s) mono.order)

  input_merged : (any_order : Bool) → any_order ≡ false → (start end : ℕ) → is_input_range start end s ≡ true
      → ReachesBothSides s
      → both (merge_sides any_order (both_place s start) (both_place s end) s)
      ≡ cluster_merge (both s) (part (both s) (both_place s start) (both_place s end))
  input_merged any_order level start end e reaches =
      let p = both_place s start in
      let q = both_place s end in
      take-append-drop (length s.out) (merge_or_mark any_order (both s) p q (floor_of s))
      ∙ merge_or_mark_merges any_order (both s) p q (floor_of s) level
      ∙ ap (run_merge (both s) p q) (floor_of-zero s reaches)
      ∙ merged_part p q (place_in s end (input_within start end s e))

  merged_by : (call : Call) → is_merge call s ≡ true → may_be_made call s ≡ true → ReachesBothSides s
      → both (outcome_of call s).state ≡ cluster_merge (both s) (range_of call s)
  merged_by (MergeClusters start end) is e reaches = input_merged (any_order s) mono.level start end e reaches
  merged_by (MergeOutClusters start end) is e reaches =
      let w = and_parts s.have_output _ e in
      let within : end ≤ length s.out = leb-true end (length s.out) (and_parts (leb start end) _ w.1).1 in
      take-append-drop (length s.out) (cond (any_order s) (both s) (run_merge (both s) start end 0))
      ∙ cond-false (any_order s) _ _ mono.level
      ∙ merged_part start end (omega (arith, length-append s.out s.input))
  merged_by (MergeGraphemeClusters start end) is e reaches =
      ap both (cond-true (groups_graphemes s.cluster_level) _ _ is) ∙ input_merged false refl start end e reaches
  merged_by ClearOutput is e reaches = cc
  merged_by NextGlyph is e reaches = cc
  merged_by (NextGlyphs n) is e reaches = cc
  merged_by SkipGlyph is e reaches = cc
  merged_by (ReplaceGlyph id) is e reaches = cc
  merged_by (ReplaceGlyphs num_in num_out ids) is e reaches = cc
  merged_by (OutputGlyph id) is e reaches = cc
  merged_by (OutputInfo g) is e reaches = cc
  merged_by CopyGlyph is e reaches = cc
  merged_by (MoveTo place) is e reaches = cc
  merged_by Sync is e reaches = cc
  merged_by DeleteGlyph is e reaches = cc
  merged_by (UnsafeToBreak start end) is e reaches = cc
  merged_by (UnsafeToBreakFromOutbuffer start end) is e reaches = cc
  merged_by (SafeToInsertTatweel start end) is e reaches = cc
  merged_by (UnsafeToConcat start end) is e reaches = cc
  merged_by (UnsafeToConcatFromOutbuffer start end) is e reaches = cc

pub both-merge_coarsens : (call : Call) (s : State) → is_merge call s ≡ true → may_be_made call s ≡ true
    → HasMonotoneClusters s → ReachesBothSides s
    → both (turn call s).state ≡ cluster_merge (both s) (range_of call s)
both-merge_coarsens call s is e mono reaches = both-turn call s e ∙ merged_by s mono call is e reaches

abbrev SharesAfter : List hb_glyph_info_t → List hb_glyph_info_t → List hb_glyph_info_t → Type 0
SharesAfter l r new =
    (i j : ℕ) → i < length l → j < length l
    → (get_or (clusters new) i 0 ≡ get_or (clusters new) j 0)
    ↔ ((get_or (clusters l) i 0 ≡ get_or (clusters l) j 0)
    ⊎ ((occurs (get_or (clusters l) i 0) (clusters r) ≡ true)
    × (occurs (get_or (clusters l) j 0) (clusters r) ≡ true)))

pub merge_shares_by : (call : Call) (s : State) → is_merge call s ≡ true → may_be_made call s ≡ true
    → HasMonotoneClusters s → ReachesBothSides s
    → SharesAfter (both s) (range_of call s) (both (turn call s).state)
merge_shares_by call s is e mono reaches =
    subst (SharesAfter (both s) (range_of call s)) (sym (both-merge_coarsens call s is e mono reaches))
    (merge_shares (both s) (range_of call s))

abbrev KeepsAfter : List hb_glyph_info_t → List hb_glyph_info_t → Type 0
KeepsAfter l new =
    (i : ℕ) → i < length l → get_or (clusters new) i 0 ≡ get_or (clusters l) i 0
    → get_or new i zero_glyph ≡ get_or l i zero_glyph

pub merge_keeps_by : (call : Call) (s : State) → is_merge call s ≡ true → may_be_made call s ≡ true
    → HasMonotoneClusters s → ReachesBothSides s
    → KeepsAfter (both s) (both (turn call s).state)
merge_keeps_by call s is e mono reaches =
    subst (KeepsAfter (both s)) (sym (both-merge_coarsens call s is e mono reaches))
    (merge_stays (both s) (range_of call s))

-- ---- marks

-- of no glyph or one there is none to mark
mark_short : (bits : ℕ) (r : List hb_glyph_info_t) → length r ≤ 1 → mark bits r ≡ r
unfolding mark least
mark_short bits [] h = refl
mark_short bits (g ∷ []) h = ap (λ x. x ∷ []) (cond-true _ _ _ (eq-eqb g.cluster g.cluster refl))
mark_short bits (g ∷ k ∷ r) h = absurd (omega arith)

on_part-mark_short : (bits : ℕ) (l : List hb_glyph_info_t) (p q : ℕ) → p ≤ q → q ≤ p + 1 → q ≤ length l
    → on_part (mark bits) l p q ≡ l
on_part-mark_short bits l p q up short in_l =
    ap (λ xs. take p l ++ xs ++ drop q l) (mark_short bits (part l p q) (omega (arith, length-part l p q in_l)))
    ∙ append-part l p q up

module _ (s : State) (mono : HasMonotoneClusters s) where
  part_monotone : (p q : ℕ) → q ≤ length (both s) → IsMonotone (part (both s) p q)
  part_monotone p q in_l = monotone_reading (both s) (part (both s) p q) (reading_part (both s) p q in_l) mono.order

  scanned : (any : Bool) (bits p q : ℕ) → any ≡ false → q ≤ length (both s)
      → on_part (scan_of any bits) (both s) p q ≡ on_part (mark bits) (both s) p q
  unfolding scan_of
  scanned true bits p q e in_l = cc
  scanned false bits p q e in_l = ap (λ xs. take p (both s) ++ xs ++ drop q (both s))
      (end_mark_is_mark bits (part (both s) p q) (part_monotone p q in_l))

  two_scanned : (any : Bool) (bits k p q : ℕ) → any ≡ false → q ≤ length (both s)
      → on_part (two_part_scan any bits k) (both s) p q ≡ on_part (mark bits) (both s) p q
  unfolding two_part_scan
  two_scanned true bits k p q e in_l = cc
  two_scanned false bits k p q e in_l =
      let r = part (both s) p q in
      let whole : take k r ++ drop k r ≡ r = take-append-drop k r in
      ap (λ xs. take p (both s) ++ xs ++ drop q (both s))
      (append-mark_part bits (take k r) (drop k r) (subst IsMonotone (sym whole) (part_monotone p q in_l))
      ∙ ap (mark bits) whole)

  end_in : (end : _) → both_place s (range_end end s) ≤ length (both s)
  end_in end = place_in s (range_end end s) (omega arith)

  input_marked : (start : ℕ) (end : _) → start ≤ range_end end s
      → both (unsafe_to_break (Some start) end s)
      ≡ on_part (mark BREAK_BITS) (both s) (both_place s start) (both_place s (range_end end s))
  input_marked a end up =
      let b = range_end end s in
      let p = both_place s a in
      let q = both_place s b in
      cond_both (ltb (b - a) 2) _ _ (λ (t : State). both t ≡ on_part (mark BREAK_BITS) (both s) p q)
      (λ short. let few = ltb-true (b - a) 2 short in
      sym (on_part-mark_short BREAK_BITS (both s) p q (omega arith) (omega arith) (end_in end)))
      (λ _. take-append-drop (length s.out) (on_part (scan_of (any_order s) BREAK_BITS) (both s) p q)
      ∙ scanned (any_order s) BREAK_BITS p q mono.level (end_in end))

  marked_by : (call : Call) → is_break call s ≡ true → may_be_made call s ≡ true
      → both (outcome_of call s).state ≡ on_part (mark BREAK_BITS) (both s) (from_place call s) (to_place call s)
  marked_by (UnsafeToBreak start end) is e =
      input_marked (range_start start) end (input_order (range_start start) (range_end end s) s e)
  marked_by (UnsafeToBreakFromOutbuffer start end) is e =
      let p = range_start start in
      let q = both_place s (range_end end s) in
      let k = length s.out - p in
      take-append-drop (length s.out) (on_part (two_part_scan (any_order s) BREAK_BITS k) (both s) p q)
      ∙ two_scanned (any_order s) BREAK_BITS k p q mono.level (end_in end)
  marked_by (MergeGraphemeClusters start end) is e =
      let kept = range_end-some end s (input_within start end s e) in
      ap both (cond-false (groups_graphemes s.cluster_level) _ _ (not-true (groups_graphemes s.cluster_level) is))
      ∙ input_marked start (Some end) (subst (λ k. start ≤ k) (sym kept) (input_order start end s e))
      ∙ ap (λ k. on_part (mark BREAK_BITS) (both s) (both_place s start) (both_place s k)) kept
  marked_by ClearOutput is e = cc
  marked_by NextGlyph is e = cc
  marked_by (NextGlyphs n) is e = cc
  marked_by SkipGlyph is e = cc
  marked_by (ReplaceGlyph id) is e = cc
  marked_by (ReplaceGlyphs num_in num_out ids) is e = cc
  marked_by (OutputGlyph id) is e = cc
  marked_by (OutputInfo g) is e = cc
  marked_by CopyGlyph is e = cc
  marked_by (MoveTo place) is e = cc
  marked_by Sync is e = cc
  marked_by DeleteGlyph is e = cc
  marked_by (MergeClusters start end) is e = cc
  marked_by (MergeOutClusters start end) is e = cc
  marked_by (SafeToInsertTatweel start end) is e = cc
  marked_by (UnsafeToConcat start end) is e = cc
  marked_by (UnsafeToConcatFromOutbuffer start end) is e = cc

pub both-break_marks : (call : Call) (s : State) → is_break call s ≡ true → may_be_made call s ≡ true
    → HasMonotoneClusters s
    → both (turn call s).state ≡ on_part (mark BREAK_BITS) (both s) (from_place call s) (to_place call s)
both-break_marks call s is e mono = both-turn call s e ∙ marked_by s mono call is e

-- ---- the least cluster

deleted_least : (any : Bool) (out input : List hb_glyph_info_t) → any ≡ false → 0 < length input
    → let d = deletion any out (get_or input 0 zero_glyph) (drop 1 input) in 0 < length (d.out ++ d.rest)
    → least (clusters (d.out ++ d.rest)) ≡ least (clusters (out ++ input))
deleted_least true out input e some left = cc
deleted_least false out [] e some left = absurd (omega arith)
deleted_least false out (x ∷ rest) e some left =
    let n = length-deletion false out x rest in
    let d = deletion false out x rest in
    least-deletion out x rest (omega (arith, left, n.0, n.1, length-append d.out d.rest, length-append out rest))

pub least_after_deletion : (s : State) → any_order s ≡ false → may_be_made DeleteGlyph s ≡ true
    → 0 < length (both (turn DeleteGlyph s).state)
    → least (clusters (both (turn DeleteGlyph s).state)) ≡ least (clusters (both s))
least_after_deletion s level e left =
    let w = and_parts s.have_output (has_glyph s) e in
    let is = both-turn DeleteGlyph s e in
    ap (λ l. least (clusters l)) is
    ∙ deleted_least (any_order s) s.out s.input level (glyph_left s.have_output s.idx (length s.input) w.0 w.1)
    (subst (λ l. 0 < length l) is left)

replaced_least : (any : Bool) (l : List hb_glyph_info_t) (p q : ℕ) (ids : List ℕ) → any ≡ false → p ≤ q → q ≤ length l
    → p < length l → 0 < length ids
    → least (clusters (replacement any l p q ids)) ≡ least (clusters l)
replaced_least true l p q ids e up in_l here some = cc
replaced_least false l p q ids e up in_l here some = least-replacement l p q ids up in_l here some

pub least_after_replacement : (num_in num_out : ℕ) (s : State) → any_order s ≡ false → 0 < num_out → (ids : _)
    → may_be_made (ReplaceGlyphs num_in num_out ids) s ≡ true
    → least (clusters (both (turn (ReplaceGlyphs num_in num_out ids) s).state)) ≡ least (clusters (both s))
least_after_replacement num_in num_out s level some ids e =
    let w = and_parts s.have_output _ e in
    let v = and_parts (has_glyph s) _ w.1 in
    let u = and_parts (leb num_in (lookahead_len s)) _ v.1 in
    let left = glyph_left s.have_output s.idx (length s.input) w.0 v.0 in
    let within = front_left s.have_output s.idx (length s.input) num_in w.0 (leb-true num_in (lookahead_len s) u.0) in
    let put = take num_out ids.now in
    let count : length put ≡ num_out = length-take-le num_out ids.now (leb-true num_out (length ids.now) u.1) in
    let size = length-append s.out s.input in
    let P : List hb_glyph_info_t → Type 0 = λ l. least (clusters l) ≡ least (clusters (both s)) in
    subst P (sym (both-turn (ReplaceGlyphs num_in num_out ids) s e
    ∙ ap (λ (o : Outcome). both o.state) (replace_glyphs-sides num_in put s w.0)))
    (cond_both (leb (length s.out + length put) s.max_len) _ _ (λ (o : Outcome). P (both o.state))
    (λ _. subst P (sym (replaced_both num_in put s))
    (replaced_least (any_order s) (both s) (length s.out) (length s.out + num_in) put level (omega arith)
    (omega arith) (omega arith) (omega arith)))
    (λ _. refl))
