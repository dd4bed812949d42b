-- When what is put out leaves the storage of the input.
use Rattle.std.proofs.Common.{◌≡◌, ◌≤◌, ◌+◌, ℕ, true, false, not, ◌||◌, if◌then◌else◌, List, [], ◌∷◌, ◌++◌, length, map}
use Rattle.std.proofs.Common.{take, drop, refl, sym, ap, ◌∙◌, arith, ltb, leb, length-take}
use Rattle.std.specs.Prelude.{nat_lt}
use Rattle.std.proofs.lemmas.Bool.{cond_both, false≢true}
use Rattle.std.proofs.lemmas.Grind.{common_steps}
use Rattle.rb_glyph.specs.declared.flag_sets.TheConstants.BufferFlags.{PRODUCE_UNSAFE_TO_CONCAT}
use Rattle.rb_glyph.specs.declared.glyph_flag.TheConstants.{UNSAFE_TO_CONCAT}
use Rattle.rb_glyph.specs.declared.info.hb_glyph_info_t.{hb_glyph_info_t}
use Rattle.glyph_lists.specs.Replacement.{copies}
use Rattle.glyph_lists.proofs.LengthsLemmas.{length-deletion}
use Rattle.shaping_buffer.specs.ClusterLevel.{groups_graphemes}
use Rattle.shaping_buffer.specs.State.{State}
use Rattle.shaping_buffer.specs.Step.{Outcome, limited, put_out, skip_glyph, skip_glyphs, next_glyphs, glyph_to_copy}
use Rattle.shaping_buffer.specs.Step.{move_to, split_at, sync, with_id}
use Rattle.shaping_buffer.specs.ClusterStep.{any_order, both_place, merge_clusters, merge_out_clusters, delete_glyph}
use Rattle.shaping_buffer.specs.ClusterStep.{head_of, scan, plain_scan, flag_all, asks, range_start, range_end}
use Rattle.shaping_buffer.specs.ClusterStep.{merge_sides, unsafe_to_break_from_outbuffer}
use Rattle.shaping_runs.specs.declared.call.Call.{Call}
use Rattle.shaping_runs.specs.declared.call.Call.TheVariants.{ClearOutput, NextGlyph, NextGlyphs, SkipGlyph}
use Rattle.shaping_runs.specs.declared.call.Call.TheVariants.{ReplaceGlyph, ReplaceGlyphs, OutputGlyph, OutputInfo}
use Rattle.shaping_runs.specs.declared.call.Call.TheVariants.{CopyGlyph, MoveTo, Sync, DeleteGlyph, MergeClusters}
use Rattle.shaping_runs.specs.declared.call.Call.TheVariants.{MergeOutClusters, UnsafeToBreak}
use Rattle.shaping_runs.specs.declared.call.Call.TheVariants.{UnsafeToBreakFromOutbuffer, SafeToInsertTatweel}
use Rattle.shaping_runs.specs.declared.call.Call.TheVariants.{UnsafeToConcat, UnsafeToConcatFromOutbuffer}
use Rattle.shaping_runs.specs.declared.call.Call.TheVariants.{MergeGraphemeClusters}
use Rattle.shaping_runs.specs.Replay.{Turn, turn, may_be_made, outcome_of}
use Rattle.shaping_runs.specs.Separation.{IsNear, Follows}

-- while an output is open afterwards
abbrev Told : State → State → Type 0
Told old new = new.have_output ≡ true → Follows old new

-- a call that neither puts out nor takes back
unmoved : (old new : State) → new.have_separate_output ≡ old.have_separate_output
    → (old.have_separate_output ≡ false → length new.out ≤ new.idx) → Told old new
unmoved old new e near = λ _. grind (arith, common_steps)

module _ (s : State) (near : IsNear s) where
  same : Told s s
  same = unmoved s s refl near

  limited_told : (held : ℕ) (after : State) → after.have_separate_output ≡ s.have_separate_output
      → Told s (limited held s after).state
  limited_told held after e =
      cond_both (leb held s.max_len) _ _ (λ (o : Outcome). Told s o.state)
      (λ _ _. ap (λ b. b || nat_lt after.idx (length after.out)) e)
      (λ _. unmoved s (record s { successful = false }) refl near)

  put_out_told : (xs : List hb_glyph_info_t) (after : State) → after.have_separate_output ≡ s.have_separate_output
      → Told s (put_out xs s after).state
  put_out_told xs after e = limited_told (length (s.out ++ xs)) (record after { out = after.out ++ xs }) e

  next_told : (n : ℕ) → s.have_output ≡ true → Told s (next_glyphs n s).state
  next_told n opened = cond_both s.have_output _ _ (λ (o : Outcome). Told s o.state)
      (λ _. put_out_told (take n s.input) (skip_glyphs n s) refl) (λ closed. absurd (false≢true (sym closed ∙ opened)))

  -- nothing is put out, and nothing taken back
  out_kept : (new : State) → new.have_separate_output ≡ s.have_separate_output → length new.out ≤ length s.out
      → s.idx ≤ new.idx → Told s new
  out_kept new e fewer on = unmoved s new e (λ h. let m = near h in omega (arith, m, fewer, on))

  cut : (l : List hb_glyph_info_t) → length (take (length s.out) l) ≤ length s.out
  cut l = omega (arith, length-take (length s.out) l)

  scan_told : (bits p q : ℕ) → Told s (scan (any_order s) bits p q s)
  scan_told bits p q = out_kept (scan (any_order s) bits p q s) refl (cut _) (omega arith)

  plain_scan_told : (bits start end : ℕ) → Told s (plain_scan (any_order s) bits start end s)
  plain_scan_told bits start end = cond_both (ltb _ 2) _ _ (λ (t : State). Told s t) (λ _. same)
      (λ _. scan_told bits (both_place s start) (both_place s end))

  flag_all_told : (bits p q : ℕ) → Told s (if asks PRODUCE_UNSAFE_TO_CONCAT s then flag_all bits p q s else s)
  flag_all_told bits p q =
      cond_both (asks PRODUCE_UNSAFE_TO_CONCAT s) _ _ (λ (t : State). Told s t)
      (λ _. out_kept (flag_all bits p q s) refl (cut _) (omega arith)) (λ _. same)

  module _ (opened : s.have_output ≡ true) where
    move_told : (place : ℕ) → Told s (move_to place s).state
    move_told place =
        cond_both s.have_output _ _ (λ (o : Outcome). Told s o.state)
        (λ _. cond_both s.successful _ _ (λ (o : Outcome). Told s o.state) (λ _. limited_told _ (split_at place s) refl)
        (λ _. same))
        (λ closed. absurd (false≢true (sym closed ∙ opened)))

    sync_told : Told s (sync s).state
    sync_told =
        cond_both s.successful _ _ (λ (o : Outcome). Told s o.state)
        (λ _. cond_both (leb (length (s.out ++ s.input)) s.max_len) _ _ (λ (o : Outcome). Told s o.state)
        (λ _ still. absurd (false≢true still)) (λ _. unmoved s (record s { successful = false }) refl near))
        (λ _. same)

    outcome_told : (call : Call) → may_be_made call s ≡ true → Told s (outcome_of call s).state
    outcome_told ClearOutput may = absurd (false≢true (sym (ap not opened) ∙ may))
    outcome_told NextGlyph may = next_told 1 opened
    outcome_told (NextGlyphs n) may = next_told n opened
    outcome_told SkipGlyph may = out_kept (skip_glyph s) refl (omega arith) (omega arith)
    outcome_told (ReplaceGlyph id) may = put_out_told (map (with_id id) (take 1 s.input)) (skip_glyph s) refl
    outcome_told (ReplaceGlyphs num_in num_out ids) may =
        let m = merge_clusters s.idx (s.idx + num_in) s in
        put_out_told (copies (head_of m) (take num_out ids.now)) (skip_glyphs num_in m) refl
    outcome_told (OutputGlyph id) may = put_out_told (map (with_id id) (glyph_to_copy s)) s refl
    outcome_told (OutputInfo g) may = put_out_told (g ∷ []) s refl
    outcome_told CopyGlyph may = put_out_told (take 1 s.input) s refl
    outcome_told (MoveTo place) may = move_told place
    outcome_told Sync may = sync_told
    outcome_told DeleteGlyph may =
        let d = length-deletion (any_order s) s.out (head_of s) (drop 1 s.input) in
        out_kept (delete_glyph s) refl (omega (arith, d.0)) (omega arith)
    outcome_told (MergeClusters start end) may = out_kept (merge_clusters start end s) refl (cut _) (omega arith)
    outcome_told (MergeOutClusters start end) may = out_kept (merge_out_clusters start end s) refl (cut _) (omega arith)
    outcome_told (MergeGraphemeClusters start end) may =
        cond_both (groups_graphemes s.cluster_level) _ _ (λ (t : State). Told s t)
        (λ _. out_kept (merge_sides false (both_place s start) (both_place s end) s) refl (cut _) (omega arith))
        (λ _. plain_scan_told _ _ _)
    outcome_told (UnsafeToBreak start end) may = plain_scan_told _ _ _
    outcome_told (UnsafeToBreakFromOutbuffer start end) may =
        out_kept (unsafe_to_break_from_outbuffer start end s) refl (cut _) (omega arith)
    outcome_told (SafeToInsertTatweel start end) may = plain_scan_told _ _ _
    outcome_told (UnsafeToConcat start end) may =
        flag_all_told UNSAFE_TO_CONCAT (both_place s (range_start start)) (both_place s (range_end end s))
    outcome_told (UnsafeToConcatFromOutbuffer start end) may =
        flag_all_told UNSAFE_TO_CONCAT (range_start start) (both_place s (range_end end s))

    pub turn_told : (call : Call) → Told s (turn call s).state
    turn_told call =
        cond_both (may_be_made call s) _ _ (λ (t : Turn). Told s t.state) (λ may. outcome_told call may) (λ _. same)
