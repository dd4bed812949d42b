-- Runs at every level except 3 are those of three levels.
use Rattle.std.proofs.Common.{◌≡◌, false, ◌||◌, List, [], ◌∷◌, take, refl, sym, ap, ◌∙◌, cond, eqb}
use Rattle.std.specs.Prelude.{◌≢◌}
use Rattle.std.proofs.Math.Bool.{or-false}
use Rattle.std.proofs.lemmas.Bool.{ne_eqb}
use Rattle.glyph_lists.specs.declared.glyph_flags.TheConstants.{BREAK_BITS}
use Rattle.shaping_buffer.specs.State.{State}
use Rattle.shaping_buffer.specs.Step as step
use Rattle.shaping_buffer.specs.Step.{Outcome}
use Rattle.shaping_buffer.specs.ClusterLevel.{allows_any_order}
use Rattle.shaping_buffer.specs.ClusterStep as cluster_step
use Rattle.shaping_buffer.specs.ClusterStep.{both_place, range_start, range_end, tatweel_bits, plain_scan}
use Rattle.shaping_runs.specs.declared.call.Call.{Call}
use Rattle.shaping_runs.specs.declared.call.Call.TheVariants.{ClearOutput, NextGlyph, NextGlyphs, SkipGlyph}
use Rattle.shaping_runs.specs.declared.call.Call.TheVariants.{ReplaceGlyph, ReplaceGlyphs, OutputGlyph, OutputInfo}
use Rattle.shaping_runs.specs.declared.call.Call.TheVariants.{CopyGlyph, MoveTo, Sync, DeleteGlyph, MergeClusters}
use Rattle.shaping_runs.specs.declared.call.Call.TheVariants.{MergeOutClusters, UnsafeToBreak}
use Rattle.shaping_runs.specs.declared.call.Call.TheVariants.{UnsafeToBreakFromOutbuffer, SafeToInsertTatweel}
use Rattle.shaping_runs.specs.declared.call.Call.TheVariants.{UnsafeToConcat, UnsafeToConcatFromOutbuffer}
use Rattle.shaping_runs.specs.declared.call.Call.TheVariants.{MergeGraphemeClusters}
use Rattle.shaping_runs.specs.declared.call.Answer.TheVariants.{Outside}
use Rattle.shaping_runs.specs.Replay.{Turn, turn, after, answers_of, answer_of, may_be_made, outcome_of}
use Rattle.shaping_runs.specs.ThreeLevels.{any_order, old_outcome_of, old_turn, old_after, old_answers_of, is_new, AreOld}
use Rattle.shaping_runs.proofs.Settings.{cluster_level-turn}

-- ---- one call

allows_any_order-same : (s : State) → s.cluster_level ≢ 3 → allows_any_order s.cluster_level ≡ any_order s
allows_any_order-same s n =
    ap (λ b. eqb s.cluster_level 2 || b) (ne_eqb s.cluster_level 3 n) ∙ or-false (eqb s.cluster_level 2)

outcome_of-same : (call : Call) (s : State) → is_new call ≡ false → s.cluster_level ≢ 3
    → outcome_of call s ≡ old_outcome_of call s
outcome_of-same (ReplaceGlyphs num_in num_out ids) s old n =
    ap (λ b. step.replace_input b num_in (take num_out ids.now) s) (allows_any_order-same s n)
outcome_of-same DeleteGlyph s old n =
    ap (λ b. step.unlimited (cluster_step.delete_current b s)) (allows_any_order-same s n)
outcome_of-same (MergeClusters start end) s old n =
    ap (λ b. step.unlimited (cluster_step.merge_input b start end s)) (allows_any_order-same s n)
outcome_of-same (MergeOutClusters start end) s old n =
    ap (λ b. step.unlimited (cluster_step.merge_out b start end s)) (allows_any_order-same s n)
outcome_of-same (UnsafeToBreak start end) s old n =
    ap (λ b. step.unlimited (plain_scan b BREAK_BITS (range_start start) (range_end end s) s))
    (allows_any_order-same s n)
outcome_of-same (UnsafeToBreakFromOutbuffer start end) s old n =
    let to = both_place s (range_end end s) in
    ap (λ b. step.unlimited (cluster_step.scan_sides b BREAK_BITS (range_start start) to s)) (allows_any_order-same s n)
outcome_of-same (SafeToInsertTatweel start end) s old n =
    ap (λ b. step.unlimited (plain_scan b (tatweel_bits s) (range_start start) (range_end end s) s))
    (allows_any_order-same s n)
outcome_of-same (MergeGraphemeClusters start end) s old n = cc
outcome_of-same ClearOutput s old n = refl
outcome_of-same NextGlyph s old n = refl
outcome_of-same (NextGlyphs k) s old n = refl
outcome_of-same SkipGlyph s old n = refl
outcome_of-same (ReplaceGlyph id) s old n = refl
outcome_of-same (OutputGlyph id) s old n = refl
outcome_of-same (OutputInfo g) s old n = refl
outcome_of-same CopyGlyph s old n = refl
outcome_of-same (MoveTo place) s old n = refl
outcome_of-same Sync s old n = refl
outcome_of-same (UnsafeToConcat start end) s old n = refl
outcome_of-same (UnsafeToConcatFromOutbuffer start end) s old n = refl

pub same_turn : (call : Call) (s : State) → is_new call ≡ false → s.cluster_level ≢ 3 → turn call s ≡ old_turn call s
same_turn call s old n = ap (λ (o : Outcome). cond (may_be_made call s) (record { answer = answer_of o.done; state = o.state })
    (record { answer = Outside; state = s })) (outcome_of-same call s old n)

-- ---- lists of calls

pub same_runs : (calls : List Call) (s : State) → AreOld calls → s.cluster_level ≢ 3
    → (after calls s ≡ old_after calls s) × (answers_of calls s ≡ old_answers_of calls s)
same_runs [] s old n = (refl, refl)
same_runs (call ∷ calls) s old n =
    let one = same_turn call s old.0 n in
    let rest = same_runs calls (turn call s).state old.1 (λ e. n (sym (cluster_level-turn call s) ∙ e)) in (
      rest.0 ∙ ap (λ (t : Turn). old_after calls t.state) one,
      ap (λ l. (turn call s).answer ∷ l) rest.1
          ∙ ap (λ (t : Turn). t.answer ∷ old_answers_of calls t.state) one,
    )
