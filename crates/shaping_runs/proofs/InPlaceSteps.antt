-- What was put out in place stays there while no call puts out more glyphs than it reads.
use Rattle.std.proofs.Common.{◌≡◌, ◌≤◌, ◌+◌, ℕ, true, false, if◌then◌else◌, List, [], ◌∷◌, ◌++◌, length, length-append}
use Rattle.std.proofs.Common.{map, take, drop, refl, sym, ap, ◌∙◌, arith, ltb, leb, length-take}
use Rattle.std.proofs.lemmas.Bool.{cond_both, false≢true, and_parts, ltb-false}
use Rattle.std.proofs.lemmas.List.{length-map}
use Rattle.std.proofs.lemmas.Grind.{common_steps}
use Rattle.rb_glyph.specs.declared.flag_sets.TheConstants.BufferFlags.{PRODUCE_UNSAFE_TO_CONCAT}
use Rattle.rb_glyph.specs.declared.glyph_flag.TheConstants.{UNSAFE_TO_CONCAT}
use Rattle.rb_glyph.specs.declared.info.hb_glyph_info_t.{hb_glyph_info_t}
use Rattle.glyph_lists.specs.Replacement.{copies}
use Rattle.glyph_lists.proofs.LengthsLemmas.{length-deletion}
use Rattle.glyph_lists.proofs.LengthsLemmas.{length_copies}
use Rattle.shaping_buffer.specs.ClusterLevel.{groups_graphemes}
use Rattle.shaping_buffer.specs.State.{State}
use Rattle.shaping_buffer.specs.Step.{Outcome, limited, put_out, skip_glyph, skip_glyphs, next_glyphs, replace_glyphs}
use Rattle.shaping_buffer.specs.Step.{move_to, split_at, sync, with_id}
use Rattle.shaping_buffer.specs.ClusterStep.{any_order, both_place, merge_clusters, merge_out_clusters, delete_glyph}
use Rattle.shaping_buffer.specs.ClusterStep.{head_of, scan, plain_scan, flag_all, asks, range_start, range_end}
use Rattle.shaping_buffer.specs.ClusterStep.{merge_sides, unsafe_to_break_from_outbuffer}
use Rattle.shaping_runs.specs.declared.call.Call.{Call}
use Rattle.shaping_runs.specs.declared.call.Call.TheVariants.{ClearOutput, NextGlyph, NextGlyphs, SkipGlyph}
use Rattle.shaping_runs.specs.declared.call.Call.TheVariants.{ReplaceGlyph, ReplaceGlyphs, OutputGlyph, OutputInfo}
use Rattle.shaping_runs.specs.declared.call.Call.TheVariants.{CopyGlyph, MoveTo, Sync, DeleteGlyph, MergeClusters}
use Rattle.shaping_runs.specs.declared.call.Call.TheVariants.{MergeOutClusters, UnsafeToBreak}
use Rattle.shaping_runs.specs.declared.call.Call.TheVariants.{UnsafeToBreakFromOutbuffer, SafeToInsertTatweel}
use Rattle.shaping_runs.specs.declared.call.Call.TheVariants.{UnsafeToConcat, UnsafeToConcatFromOutbuffer}
use Rattle.shaping_runs.specs.declared.call.Call.TheVariants.{MergeGraphemeClusters}
use Rattle.shaping_runs.specs.Replay.{Turn, turn, may_be_made, outcome_of}
use Rattle.shaping_runs.specs.Exceptions.{adds_glyphs, NoGlyphIsAdded}
use Rattle.shaping_runs.specs.Separation.{IsInPlace, StaysInPlace}

none_left : {X : Type 0} (l k : List X) → length l ≤ length k → k ≡ [] → l ≡ []
none_left [] k h e = refl
none_left (x ∷ l) k h e = absurd (omega (arith, h, ap length e))

module _ (s : State) (here : IsInPlace s) where
  -- nothing more is put out, and nothing taken back
  kept : (new : State) → new.have_separate_output ≡ s.have_separate_output → new.have_output ≡ s.have_output
      → length new.out ≤ length s.out → s.idx ≤ new.idx → IsInPlace new
  kept new separate opens fewer on = record {
    together = separate ∙ here.together;
    near = omega (arith, here.near, fewer, on);
    closed = λ off. none_left new.out s.out fewer (here.closed (sym opens ∙ off));
  }

  cut : (l : List hb_glyph_info_t) → length (take (length s.out) l) ≤ length s.out
  cut l = omega (arith, length-take (length s.out) l)

  limited_stays : (held : ℕ) (after : State) → IsInPlace after → IsInPlace (limited held s after).state
  limited_stays held after fits =
      cond_both (leb held s.max_len) _ _ (λ (o : Outcome). IsInPlace o.state)
      (λ _. record {
        together = (let n = fits.near in let t = fits.together in grind (arith, common_steps));
        near = fits.near;
        closed = fits.closed;
      })
      (λ _. record { together = here.together; near = here.near; closed = here.closed })

  module _ (opened : s.have_output ≡ true) where
    put_out_stays : (xs : List hb_glyph_info_t) (after : State) → after.have_separate_output ≡ s.have_separate_output
        → after.have_output ≡ s.have_output → length (after.out ++ xs) ≤ after.idx
        → IsInPlace (put_out xs s after).state
    put_out_stays xs after separate opens fewer =
        limited_stays (length (s.out ++ xs)) (record after { out = after.out ++ xs })
        (record {
          together = separate ∙ here.together;
          near = fewer;
          closed = λ off. absurd (false≢true (sym off ∙ opens ∙ opened));
        })

    sync_stays : IsInPlace (sync s).state
    sync_stays =
        cond_both s.successful _ _ (λ (o : Outcome). IsInPlace o.state)
        (λ _. limited_stays (length (s.out ++ s.input))
        (record s {
          have_output = false;
          have_separate_output = false;
          out = [];
          input = s.out ++ s.input;
          idx = 0;
        })
        (record { together = refl; near = omega arith; closed = λ _. refl }))
        (λ _. here)

    replaced_stays : (num_in num_out : ℕ) (ids : List ℕ) → num_out ≤ num_in
        → IsInPlace (replace_glyphs num_in (take num_out ids) s).state
    replaced_stays num_in num_out ids no_more =
        let m = merge_clusters s.idx (s.idx + num_in) s in
        let xs = copies (head_of m) (take num_out ids) in
        let fewer : length m.out ≤ length s.out = cut _ in
        put_out_stays xs (skip_glyphs num_in m) refl refl
        (omega (
          arith,
          here.near,
          fewer,
          length-append m.out xs,
          length_copies (head_of m) (take num_out ids),
          length-take num_out ids,
          no_more,
        ))

  next_stays : (n : ℕ) → IsInPlace (next_glyphs n s).state
  next_stays n =
      cond_both s.have_output _ _ (λ (o : Outcome). IsInPlace o.state)
      (λ opened. put_out_stays opened (take n s.input) (skip_glyphs n s) refl refl
      (omega (arith, here.near, length-append s.out (take n s.input), length-take n s.input)))
      (λ _. kept (skip_glyphs n s) refl refl (omega arith) (omega arith))

  renamed_stays : s.have_output ≡ true → (id : ℕ)
      → IsInPlace (put_out (map (with_id id) (take 1 s.input)) s (skip_glyph s)).state
  renamed_stays opened id =
      let xs = map (with_id id) (take 1 s.input) in
      put_out_stays opened xs (skip_glyph s) refl refl
      (omega (
        arith,
        here.near,
        length-append s.out xs,
        length-map (take 1 s.input) (with_id id),
        length-take 1 s.input,
      ))

  move_stays : (place : ℕ) → IsInPlace (move_to place s).state
  move_stays place =
      cond_both s.have_output _ _ (λ (o : Outcome). IsInPlace o.state)
      (λ opened. cond_both s.successful _ _ (λ (o : Outcome). IsInPlace o.state)
      (λ _. limited_stays _ (split_at place s)
      (record {
        together = here.together;
        near = omega (arith, here.near, length-take place (s.out ++ s.input));
        closed = λ off. absurd (false≢true (sym off ∙ opened));
      }))
      (λ _. here))
      (λ off. record {
        together = here.together;
        near = omega (arith, ap length (here.closed off));
        closed = here.closed;
      })

  scan_stays : (bits p q : ℕ) → IsInPlace (scan (any_order s) bits p q s)
  scan_stays bits p q = kept (scan (any_order s) bits p q s) refl refl (cut _) (omega arith)

  plain_scan_stays : (bits start end : ℕ) → IsInPlace (plain_scan (any_order s) bits start end s)
  plain_scan_stays bits start end = cond_both (ltb _ 2) _ _ (λ (t : State). IsInPlace t) (λ _. here)
      (λ _. scan_stays bits (both_place s start) (both_place s end))

  flag_all_stays : (bits p q : ℕ) → IsInPlace (if asks PRODUCE_UNSAFE_TO_CONCAT s then flag_all bits p q s else s)
  flag_all_stays bits p q =
      cond_both (asks PRODUCE_UNSAFE_TO_CONCAT s) _ _ (λ (t : State). IsInPlace t)
      (λ _. kept (flag_all bits p q s) refl refl (cut _) (omega arith)) (λ _. here)

  outcome_stays : (call : Call) → adds_glyphs call s ≡ false → may_be_made call s ≡ true
      → IsInPlace (outcome_of call s).state
  outcome_stays ClearOutput none may = record { together = refl; near = omega arith; closed = λ _. refl }
  outcome_stays NextGlyph none may = next_stays 1
  outcome_stays (NextGlyphs n) none may = next_stays n
  outcome_stays SkipGlyph none may = kept (skip_glyph s) refl refl (omega arith) (omega arith)
  outcome_stays (ReplaceGlyph id) none may = renamed_stays (and_parts s.have_output _ may).0 id
  outcome_stays (ReplaceGlyphs num_in num_out ids) none may =
      replaced_stays (and_parts s.have_output _ may).0 num_in num_out ids.now (ltb-false num_in num_out none)
  outcome_stays (OutputGlyph id) none may = absurd (false≢true (sym none))
  outcome_stays (OutputInfo g) none may = absurd (false≢true (sym none))
  outcome_stays CopyGlyph none may = absurd (false≢true (sym none))
  outcome_stays (MoveTo place) none may = move_stays place
  outcome_stays Sync none may = sync_stays may
  outcome_stays DeleteGlyph none may =
      let d = length-deletion (any_order s) s.out (head_of s) (drop 1 s.input) in
      kept (delete_glyph s) refl refl (omega (arith, d.0)) (omega arith)
  outcome_stays (MergeClusters start end) none may = kept (merge_clusters start end s) refl refl (cut _) (omega arith)
  outcome_stays (MergeOutClusters start end) none may =
      kept (merge_out_clusters start end s) refl refl (cut _) (omega arith)
  outcome_stays (MergeGraphemeClusters start end) none may =
      cond_both (groups_graphemes s.cluster_level) _ _ (λ (t : State). IsInPlace t)
      (λ _. kept (merge_sides false (both_place s start) (both_place s end) s) refl refl (cut _) (omega arith))
      (λ _. plain_scan_stays _ _ _)
  outcome_stays (UnsafeToBreak start end) none may = plain_scan_stays _ _ _
  outcome_stays (UnsafeToBreakFromOutbuffer start end) none may =
      kept (unsafe_to_break_from_outbuffer start end s) refl refl (cut _) (omega arith)
  outcome_stays (SafeToInsertTatweel start end) none may = plain_scan_stays _ _ _
  outcome_stays (UnsafeToConcat start end) none may =
      flag_all_stays UNSAFE_TO_CONCAT (both_place s (range_start start)) (both_place s (range_end end s))
  outcome_stays (UnsafeToConcatFromOutbuffer start end) none may =
      flag_all_stays UNSAFE_TO_CONCAT (range_start start) (both_place s (range_end end s))

  pub turn_stays : (call : Call) → adds_glyphs call s ≡ false → IsInPlace (turn call s).state
  turn_stays call none = cond_both (may_be_made call s) _ _ (λ (t : Turn). IsInPlace t.state)
      (λ may. outcome_stays call none may) (λ _. here)

pub stays_in_place : (calls : List Call) (s : State) → NoGlyphIsAdded calls s → IsInPlace s → StaysInPlace calls s
stays_in_place [] s none here = here.together
stays_in_place (call ∷ calls) s none here =
    (here.together, stays_in_place calls (turn call s).state none.1 (turn_stays s here call none.0))
