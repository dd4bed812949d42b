-- A refusal stays along every list of calls.
use Rattle.std.proofs.Common.{◌≡◌, ◌≤◌, ℕ, true, false, List, [], ◌∷◌, ◌++◌, ◌+◌, length, map, take, refl, ap, ◌∙◌, ltb}
use Rattle.std.proofs.Common.{leb}
use Rattle.std.proofs.lemmas.Bool.{cond_both, cond-true, cond-false, le-leb}
use Rattle.rb_glyph.specs.declared.flag_sets.TheConstants.BufferFlags.{PRODUCE_UNSAFE_TO_CONCAT}
use Rattle.rb_glyph.specs.declared.info.hb_glyph_info_t.{hb_glyph_info_t}
use Rattle.shaping_buffer.specs.ClusterLevel.{groups_graphemes}
use Rattle.shaping_buffer.specs.State.{State}
use Rattle.shaping_buffer.specs.Step.{Outcome, limited, put_out, skip_glyph, skip_glyphs, next_glyphs, glyph_to_copy}
use Rattle.shaping_buffer.specs.Step.{split_at, refused, last_place, with_id}
use Rattle.glyph_lists.specs.Replacement.{copies}
use Rattle.shaping_buffer.specs.ClusterStep.{any_order, merge_clusters, head_of, plain_scan, asks}
use Rattle.shaping_runs.specs.declared.call.Call.{Call}
use Rattle.shaping_runs.specs.declared.call.Call.TheVariants.{ClearOutput, NextGlyph, NextGlyphs, SkipGlyph}
use Rattle.shaping_runs.specs.declared.call.Call.TheVariants.{ReplaceGlyph, ReplaceGlyphs, OutputGlyph, OutputInfo}
use Rattle.shaping_runs.specs.declared.call.Call.TheVariants.{CopyGlyph, MoveTo, Sync, DeleteGlyph, MergeClusters}
use Rattle.shaping_runs.specs.declared.call.Call.TheVariants.{MergeOutClusters, UnsafeToBreak}
use Rattle.shaping_runs.specs.declared.call.Call.TheVariants.{UnsafeToBreakFromOutbuffer, SafeToInsertTatweel}
use Rattle.shaping_runs.specs.declared.call.Call.TheVariants.{UnsafeToConcat, UnsafeToConcatFromOutbuffer}
use Rattle.shaping_runs.specs.declared.call.Call.TheVariants.{MergeGraphemeClusters}
use Rattle.shaping_runs.specs.declared.call.Answer.TheVariants.{Refused}
use Rattle.shaping_runs.specs.Replay.{Turn, turn, after, answer_of, may_be_made, outcome_of}

limited_stays : (held : ℕ) (before new : State) → new.successful ≡ false
    → (limited held before new).state.successful ≡ false
limited_stays held before new h =
    cond_both (leb held before.max_len) _ _ (λ (o : Outcome). o.state.successful ≡ false) (λ _. h) (λ _. refl)

put_out_stays : (xs : List hb_glyph_info_t) (s after : State) → after.successful ≡ false
    → (put_out xs s after).state.successful ≡ false
put_out_stays xs s after h = limited_stays (length (s.out ++ xs)) s (record after { out = after.out ++ xs }) h

next_stays : (n : ℕ) (s : State) → s.successful ≡ false → (next_glyphs n s).state.successful ≡ false
next_stays n s h = cond_both s.have_output _ _ (λ (o : Outcome). o.state.successful ≡ false)
    (λ _. put_out_stays (take n s.input) s (skip_glyphs n s) h) (λ _. h)

plain_scan_stays : (bits start end : ℕ) (s : State) → s.successful ≡ false
    → (plain_scan (any_order s) bits start end s).successful ≡ false
plain_scan_stays bits start end s h = cond_both (ltb _ 2) _ _ (λ (t : State). t.successful ≡ false) (λ _. h) (λ _. h)

outcome_stays : (call : Call) (s : State) → s.successful ≡ false → (outcome_of call s).state.successful ≡ false
outcome_stays ClearOutput s h = h
outcome_stays NextGlyph s h = next_stays 1 s h
outcome_stays (NextGlyphs n) s h = next_stays n s h
outcome_stays SkipGlyph s h = h
outcome_stays (ReplaceGlyph id) s h = put_out_stays (map (with_id id) (take 1 s.input)) s (skip_glyph s) h
outcome_stays (ReplaceGlyphs num_in num_out ids) s h =
    put_out_stays (copies (head_of (merge_clusters s.idx (s.idx + num_in) s)) (take num_out ids.now)) s
    (skip_glyphs num_in (merge_clusters s.idx (s.idx + num_in) s)) h
outcome_stays (OutputInfo g) s h = put_out_stays (g ∷ []) s s h
outcome_stays CopyGlyph s h = put_out_stays (take 1 s.input) s s h
outcome_stays (MoveTo place) s h =
    cond_both s.have_output _ _ (λ (o : Outcome). o.state.successful ≡ false)
    (λ _. cond_both s.successful _ _ (λ (o : Outcome). o.state.successful ≡ false)
    (λ _. limited_stays _ s (split_at place s) h) (λ _. h)) (λ _. h)
outcome_stays (OutputGlyph id) s h = put_out_stays (map (with_id id) (glyph_to_copy s)) s s h
outcome_stays Sync s h = cond_both s.successful _ _ (λ (o : Outcome). o.state.successful ≡ false)
    (λ _. limited_stays (length (s.out ++ s.input)) s
    (record s { have_output = false; have_separate_output = false; out = []; input = s.out ++ s.input; idx = 0 }) h)
    (λ _. h)
outcome_stays DeleteGlyph s h = h
outcome_stays (MergeClusters start end) s h = h
outcome_stays (MergeOutClusters start end) s h = h
outcome_stays (MergeGraphemeClusters start end) s h =
    cond_both (groups_graphemes s.cluster_level) _ _ (λ (t : State). t.successful ≡ false) (λ _. h)
    (λ _. plain_scan_stays _ _ _ s h)
outcome_stays (UnsafeToBreak start end) s h = plain_scan_stays _ _ _ s h
outcome_stays (UnsafeToBreakFromOutbuffer start end) s h = h
outcome_stays (SafeToInsertTatweel start end) s h = plain_scan_stays _ _ _ s h
outcome_stays (UnsafeToConcat start end) s h =
    cond_both (asks PRODUCE_UNSAFE_TO_CONCAT s) _ _ (λ (t : State). t.successful ≡ false) (λ _. h) (λ _. h)
outcome_stays (UnsafeToConcatFromOutbuffer start end) s h =
    cond_both (asks PRODUCE_UNSAFE_TO_CONCAT s) _ _ (λ (t : State). t.successful ≡ false) (λ _. h) (λ _. h)

turn_stays : (call : Call) (s : State) → s.successful ≡ false → (turn call s).state.successful ≡ false
turn_stays call s h =
    cond_both (may_be_made call s) _ _ (λ (t : Turn). t.state.successful ≡ false) (λ _. outcome_stays call s h) (λ _. h)

pub refusal_after : (calls : List Call) (s : State) → s.successful ≡ false → (after calls s).successful ≡ false
refusal_after [] s h = h
refusal_after (call ∷ calls) s h = refusal_after calls (turn call s).state (turn_stays call s h)

-- a `sync` or `move_to` with an output open is then refused, and changes nothing
module _ (s : State) (open_now : s.have_output ≡ true) (h : s.successful ≡ false) where
  refused_turn : (call : Call) → may_be_made call s ≡ true → outcome_of call s ≡ refused s
      → turn call s ≡ record { answer = Refused; state = s }
  refused_turn call may e = cond-true (may_be_made call s) _ _ may
      ∙ ap (λ (o : Outcome). record { answer = answer_of o.done; state = o.state }) e

  pub sync_refused : turn Sync s ≡ record { answer = Refused; state = s }
  sync_refused = refused_turn Sync open_now (cond-false s.successful _ _ h)

  move_is_refused : (place : ℕ) → outcome_of (MoveTo place) s ≡ refused s
  move_is_refused place = cond-true s.have_output _ _ open_now ∙ cond-false s.successful _ _ h

  pub move_refused : (place : ℕ) → place ≤ last_place s → turn (MoveTo place) s ≡ record { answer = Refused; state = s }
  move_refused place within = refused_turn (MoveTo place) (le-leb place (last_place s) within) (move_is_refused place)
