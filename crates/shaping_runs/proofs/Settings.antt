-- No call changes the cluster level, nor the room.
use Rattle.std.proofs.Common.{◌≡◌, ℕ, ◌+◌, Bool, false, ◌++◌, List, [], ◌∷◌, length, map, take, refl, ◌∙◌, leb, ltb}
use Rattle.std.proofs.lemmas.Bool.{cond_both}
use Rattle.rb_glyph.specs.declared.flag_sets.TheConstants.BufferFlags.{PRODUCE_UNSAFE_TO_CONCAT}
use Rattle.rb_glyph.specs.declared.info.hb_glyph_info_t.{hb_glyph_info_t}
use Rattle.glyph_lists.specs.Replacement.{copies}
use Rattle.shaping_buffer.specs.State.{State}
use Rattle.shaping_buffer.specs.Step.{Outcome, limited, put_out, skip_glyph, skip_glyphs, next_glyphs, with_id, glyph_to_copy}
use Rattle.shaping_buffer.specs.Step.{split_at}
use Rattle.shaping_buffer.specs.ClusterLevel.{groups_graphemes}
use Rattle.shaping_buffer.specs.ClusterStep.{head_of, merge_clusters, plain_scan, asks}
use Rattle.shaping_runs.specs.declared.call.Call.{Call}
use Rattle.shaping_runs.specs.declared.call.Call.TheVariants.{ClearOutput, NextGlyph, NextGlyphs, SkipGlyph}
use Rattle.shaping_runs.specs.declared.call.Call.TheVariants.{ReplaceGlyph, ReplaceGlyphs, OutputGlyph, OutputInfo}
use Rattle.shaping_runs.specs.declared.call.Call.TheVariants.{CopyGlyph, MoveTo, Sync, DeleteGlyph, MergeClusters}
use Rattle.shaping_runs.specs.declared.call.Call.TheVariants.{MergeOutClusters, UnsafeToBreak}
use Rattle.shaping_runs.specs.declared.call.Call.TheVariants.{UnsafeToBreakFromOutbuffer, SafeToInsertTatweel}
use Rattle.shaping_runs.specs.declared.call.Call.TheVariants.{UnsafeToConcat, UnsafeToConcatFromOutbuffer}
use Rattle.shaping_runs.specs.declared.call.Call.TheVariants.{MergeGraphemeClusters}
use Rattle.shaping_runs.specs.Replay.{Turn, turn, after, may_be_made, outcome_of}

abbrev pub Keeps : State → State → Type 0
Keeps s t = (t.cluster_level ≡ s.cluster_level) × (t.room ≡ s.room)

limited_keeps : (held : ℕ) (s new : State) → Keeps s new → Keeps s (limited held s new).state
limited_keeps held s new e =
    cond_both (leb held s.max_len) _ _ (λ (o : Outcome). Keeps s o.state) (λ _. e) (λ _. (refl, refl))

put_out_keeps : (xs : List hb_glyph_info_t) (s after : State) → Keeps s after → Keeps s (put_out xs s after).state
put_out_keeps xs s after e = limited_keeps (length (s.out ++ xs)) s (record after { out = after.out ++ xs }) e

next_keeps : (n : ℕ) (s : State) → Keeps s (next_glyphs n s).state
next_keeps n s = cond_both s.have_output _ _ (λ (o : Outcome). Keeps s o.state)
    (λ _. put_out_keeps (take n s.input) s (skip_glyphs n s) (refl, refl)) (λ _. (refl, refl))

plain_scan_keeps : (any : Bool) (bits start end : ℕ) (s : State) → Keeps s (plain_scan any bits start end s)
plain_scan_keeps any bits start end s = cond_both (ltb _ 2) _ _ (Keeps s) (λ _. (refl, refl)) (λ _. (refl, refl))

outcome_keeps : (call : Call) (s : State) → Keeps s (outcome_of call s).state
outcome_keeps ClearOutput s = (refl, refl)
outcome_keeps NextGlyph s = next_keeps 1 s
outcome_keeps (NextGlyphs n) s = next_keeps n s
outcome_keeps SkipGlyph s = (refl, refl)
outcome_keeps (ReplaceGlyph id) s = put_out_keeps (map (with_id id) (take 1 s.input)) s (skip_glyph s) (refl, refl)
outcome_keeps (ReplaceGlyphs num_in num_out ids) s =
    let m = merge_clusters s.idx (s.idx + num_in) s in
    put_out_keeps (copies (head_of m) (take num_out ids.now)) s (skip_glyphs num_in m) (refl, refl)
outcome_keeps (OutputGlyph id) s = put_out_keeps (map (with_id id) (glyph_to_copy s)) s s (refl, refl)
outcome_keeps (OutputInfo g) s = put_out_keeps (g ∷ []) s s (refl, refl)
outcome_keeps CopyGlyph s = put_out_keeps (take 1 s.input) s s (refl, refl)
outcome_keeps (MoveTo place) s = cond_both s.have_output _ _ (λ (o : Outcome). Keeps s o.state)
    (λ _. cond_both s.successful _ _ (λ (o : Outcome). Keeps s o.state)
    (λ _. limited_keeps _ s (split_at place s) (refl, refl)) (λ _. (refl, refl))) (λ _. (refl, refl))
outcome_keeps Sync s = cond_both s.successful _ _ (λ (o : Outcome). Keeps s o.state)
    (λ _. limited_keeps (length (s.out ++ s.input)) s
    (record s { have_output = false; have_separate_output = false; out = []; input = s.out ++ s.input; idx = 0 }) (refl, refl))
    (λ _. (refl, refl))
outcome_keeps DeleteGlyph s = (refl, refl)
outcome_keeps (MergeClusters start end) s = (refl, refl)
outcome_keeps (MergeOutClusters start end) s = (refl, refl)
outcome_keeps (MergeGraphemeClusters start end) s =
    cond_both (groups_graphemes s.cluster_level) _ _ (Keeps s) (λ _. (refl, refl)) (λ _. plain_scan_keeps _ _ _ _ s)
outcome_keeps (UnsafeToBreak start end) s = plain_scan_keeps _ _ _ _ s
outcome_keeps (UnsafeToBreakFromOutbuffer start end) s = (refl, refl)
outcome_keeps (SafeToInsertTatweel start end) s = plain_scan_keeps _ _ _ _ s
outcome_keeps (UnsafeToConcat start end) s =
    cond_both (asks PRODUCE_UNSAFE_TO_CONCAT s) _ _ (Keeps s) (λ _. (refl, refl)) (λ _. (refl, refl))
outcome_keeps (UnsafeToConcatFromOutbuffer start end) s =
    cond_both (asks PRODUCE_UNSAFE_TO_CONCAT s) _ _ (Keeps s) (λ _. (refl, refl)) (λ _. (refl, refl))

turn_keeps : (call : Call) (s : State) → Keeps s (turn call s).state
turn_keeps call s =
    cond_both (may_be_made call s) _ _ (λ (t : Turn). Keeps s t.state) (λ _. outcome_keeps call s) (λ _. (refl, refl))

pub cluster_level-turn : (call : Call) (s : State) → (turn call s).state.cluster_level ≡ s.cluster_level
cluster_level-turn call s = (turn_keeps call s).0

pub room-turn : (call : Call) (s : State) → (turn call s).state.room ≡ s.room
room-turn call s = (turn_keeps call s).1

pub room_after : (calls : List Call) (s : State) → (after calls s).room ≡ s.room
room_after [] s = refl
room_after (call ∷ calls) s = room_after calls (turn call s).state ∙ room-turn call s
