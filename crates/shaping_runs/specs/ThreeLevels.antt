-- Runs as they were with three levels, before level 3 came: clusters could stand in any order at level 2 alone. The
-- definitions are those of today with that answer in place of today's.
use Rattle.std.specs.Prelude.{⊤, ◌≡◌, ◌==◌, if◌then◌else◌, Bool, true, false, List, [], ◌∷◌, take}
use Rattle.glyph_lists.specs.declared.glyph_flags.TheConstants.{BREAK_BITS}
use Rattle.shaping_buffer.specs.State.{State}
use Rattle.shaping_buffer.specs.Step as step
use Rattle.shaping_buffer.specs.Step.{Outcome}
use Rattle.shaping_buffer.specs.ClusterStep as cluster_step
use Rattle.shaping_buffer.specs.ClusterStep.{both_place, range_start, range_end, tatweel_bits}
use Rattle.shaping_runs.specs.declared.call.Call.{Call}
use Rattle.shaping_runs.specs.declared.call.Call.TheVariants.{ReplaceGlyphs, DeleteGlyph, MergeClusters}
use Rattle.shaping_runs.specs.declared.call.Call.TheVariants.{MergeOutClusters, UnsafeToBreak, SafeToInsertTatweel}
use Rattle.shaping_runs.specs.declared.call.Call.TheVariants.{UnsafeToBreakFromOutbuffer, MergeGraphemeClusters}
use Rattle.shaping_runs.specs.declared.call.Answer.{Answer}
use Rattle.shaping_runs.specs.declared.call.Answer.TheVariants.{Outside}
use Rattle.shaping_runs.specs.Replay.{Turn, may_be_made, outcome_of, answer_of}

-- whether clusters could stand in any order
abbrev pub any_order : State → Bool
any_order s = s.cluster_level == 2

-- what a call gave within its condition; those that read no level gave what they give
abbrev pub old_outcome_of : Call → State → Outcome
old_outcome_of (ReplaceGlyphs num_in num_out ids) s =
    step.replace_input (any_order s) num_in (take num_out ids.now) s
old_outcome_of DeleteGlyph s = step.unlimited (cluster_step.delete_current (any_order s) s)
old_outcome_of (MergeClusters start end) s = step.unlimited (cluster_step.merge_input (any_order s) start end s)
old_outcome_of (MergeOutClusters start end) s = step.unlimited (cluster_step.merge_out (any_order s) start end s)
old_outcome_of (UnsafeToBreak start end) s =
    step.unlimited (cluster_step.plain_scan (any_order s) BREAK_BITS (range_start start) (range_end end s) s)
old_outcome_of (UnsafeToBreakFromOutbuffer start end) s =
    let to = both_place s (range_end end s) in
    step.unlimited (cluster_step.scan_sides (any_order s) BREAK_BITS (range_start start) to s)
old_outcome_of (SafeToInsertTatweel start end) s =
    step.unlimited (cluster_step.plain_scan (any_order s) (tatweel_bits s) (range_start start) (range_end end s) s)
old_outcome_of call s = outcome_of call s

-- a call, in or outside its condition
abbrev pub old_turn : Call → State → Turn
old_turn call s =
    if may_be_made call s
    then record { answer = answer_of (old_outcome_of call s).done; state = (old_outcome_of call s).state }
    else record { answer = Outside; state = s }

-- what the calls left
abbrev pub old_after : List Call → State → State
old_after [] s = s
old_after (call ∷ calls) s = old_after calls (old_turn call s).state

-- their answers
abbrev pub old_answers_of : List Call → State → List Answer
old_answers_of [] s = []
old_answers_of (call ∷ calls) s = (old_turn call s).answer ∷ old_answers_of calls (old_turn call s).state

-- the call that came with level 3
abbrev pub is_new : Call → Bool
is_new (MergeGraphemeClusters start end) = true
is_new call = false

-- none of the calls is that one
abbrev pub AreOld : List Call → Type 0
AreOld [] = ⊤
AreOld (call ∷ calls) = (is_new call ≡ false) × AreOld calls
