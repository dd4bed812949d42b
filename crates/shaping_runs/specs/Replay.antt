-- Replay: what a list of calls answers and leaves, as a fold of the calls' steps over the two lists.
use Rattle.std.specs.Prelude.{◌≡◌, ℕ, Option, ◌<◌, Bool, true, false, ◌&&◌, not, List, [], ◌∷◌, ◌++◌, length, take}
use Rattle.std.specs.Prelude.{drop, nat_lt, nat_le, slice_get, IfSome, Result, Ok, Err, if◌then◌else◌}
use Rattle.std.specs.declared.alloc.AllocError.{AllocError}
use Rattle.shaping_runs.specs.declared.call.Call.{Call}
use Rattle.shaping_runs.specs.declared.call.Call.TheVariants.{ClearOutput, NextGlyph, NextGlyphs, SkipGlyph}
use Rattle.shaping_runs.specs.declared.call.Call.TheVariants.{ReplaceGlyph, ReplaceGlyphs, OutputGlyph, OutputInfo}
use Rattle.shaping_runs.specs.declared.call.Call.TheVariants.{CopyGlyph, MoveTo, Sync, DeleteGlyph, MergeClusters}
use Rattle.shaping_runs.specs.declared.call.Call.TheVariants.{MergeOutClusters, UnsafeToBreak}
use Rattle.shaping_runs.specs.declared.call.Call.TheVariants.{UnsafeToBreakFromOutbuffer, SafeToInsertTatweel}
use Rattle.shaping_runs.specs.declared.call.Call.TheVariants.{UnsafeToConcat, UnsafeToConcatFromOutbuffer}
use Rattle.shaping_runs.specs.declared.call.Call.TheVariants.{MergeGraphemeClusters}
use Rattle.shaping_runs.specs.declared.call.Answer.{Answer}
use Rattle.shaping_runs.specs.declared.call.Answer.TheVariants.{Done, Refused, Outside}
use Rattle.shaping_buffer.specs.State.{State, len, lookahead_len}
use Rattle.shaping_buffer.specs.Step as step
use Rattle.shaping_buffer.specs.Step.{Outcome, MayWant}
use Rattle.shaping_buffer.specs.ClusterStep as cluster_step
use Rattle.shaping_buffer.specs.ClusterStep.{is_input_range, is_out_range, is_sides_range, range_start, range_end}

-- whether there is a glyph at the cursor
abbrev pub has_glyph : State → Bool
has_glyph s = nat_lt s.idx (len s)

-- whether the range of a flag call is one of the input, or of both sides
abbrev pub flags_input : Option ℕ → Option ℕ → State → Bool
flags_input start end s = is_input_range (range_start start) (range_end end s) s

abbrev pub flags_sides : Option ℕ → Option ℕ → State → Bool
flags_sides start end s = is_sides_range (range_start start) (range_end end s) s

-- whether the condition of a call holds
abbrev pub may_be_made : Call → State → Bool
may_be_made ClearOutput s = not s.have_output
may_be_made NextGlyph s = has_glyph s
may_be_made SkipGlyph s = has_glyph s
may_be_made (NextGlyphs n) s = nat_le n (lookahead_len s)
may_be_made (ReplaceGlyph g) s = s.have_output && has_glyph s
may_be_made (ReplaceGlyphs num_in num_out ids) s =
    s.have_output && (has_glyph s && (nat_le num_in (lookahead_len s) && nat_le num_out (length ids.now)))
may_be_made (OutputGlyph g) s = s.have_output
may_be_made (OutputInfo g) s = s.have_output
may_be_made CopyGlyph s = s.have_output && has_glyph s
may_be_made (MoveTo place) s = nat_le place (step.last_place s)
may_be_made Sync s = s.have_output
may_be_made DeleteGlyph s = s.have_output && has_glyph s
may_be_made (MergeClusters start end) s = is_input_range start end s
may_be_made (MergeOutClusters start end) s = is_out_range start end s
may_be_made (MergeGraphemeClusters start end) s = is_input_range start end s
may_be_made (UnsafeToBreak start end) s = flags_input start end s
may_be_made (UnsafeToBreakFromOutbuffer start end) s = flags_sides start end s
may_be_made (SafeToInsertTatweel start end) s = flags_input start end s
may_be_made (UnsafeToConcat start end) s = flags_input start end s
may_be_made (UnsafeToConcatFromOutbuffer start end) s = flags_sides start end s

-- what it then gives
abbrev pub outcome_of : Call → State → Outcome
outcome_of ClearOutput s = step.unlimited (step.clear_output s)
outcome_of NextGlyph s = step.next_glyph s
outcome_of SkipGlyph s = step.unlimited (step.skip_glyph s)
outcome_of (NextGlyphs n) s = step.next_glyphs n s
outcome_of (ReplaceGlyph g) s = step.replace_glyph g s
outcome_of (ReplaceGlyphs num_in num_out ids) s = step.replace_glyphs num_in (take num_out ids.now) s
outcome_of (OutputGlyph g) s = step.output_glyph g s
outcome_of (OutputInfo g) s = step.output_info g s
outcome_of CopyGlyph s = step.copy_glyph s
outcome_of (MoveTo place) s = step.move_to place s
outcome_of Sync s = step.sync s
outcome_of DeleteGlyph s = step.unlimited (cluster_step.delete_glyph s)
outcome_of (MergeClusters start end) s = step.unlimited (cluster_step.merge_clusters start end s)
outcome_of (MergeOutClusters start end) s = step.unlimited (cluster_step.merge_out_clusters start end s)
outcome_of (MergeGraphemeClusters start end) s = step.unlimited (cluster_step.merge_grapheme_clusters start end s)
outcome_of (UnsafeToBreak start end) s = step.unlimited (cluster_step.unsafe_to_break start end s)
outcome_of (UnsafeToBreakFromOutbuffer start end) s =
    step.unlimited (cluster_step.unsafe_to_break_from_outbuffer start end s)
outcome_of (SafeToInsertTatweel start end) s = step.unlimited (cluster_step.safe_to_insert_tatweel start end s)
outcome_of (UnsafeToConcat start end) s = step.unlimited (cluster_step.unsafe_to_concat start end s)
outcome_of (UnsafeToConcatFromOutbuffer start end) s =
    step.unlimited (cluster_step.unsafe_to_concat_from_outbuffer start end s)

-- how it is answered that a call was done, or refused
abbrev pub answer_of : Bool → Answer
answer_of true = Done
answer_of false = Refused

-- An answer, and what the call leaves.
pub record Turn : Type 0 where
  pub answer : Answer
  pub state : State

-- a call, in or outside its condition
abbrev pub turn : Call → State → Turn
turn call s =
    if may_be_made call s then record { answer = answer_of (outcome_of call s).done; state = (outcome_of call s).state }
    else record { answer = Outside; state = s }

-- what the calls leave
abbrev pub after : List Call → State → State
after [] s = s
after (call ∷ calls) s = after calls (turn call s).state

-- their answers
abbrev pub answers_of : List Call → State → List Answer
answers_of [] s = []
answers_of (call ∷ calls) s = (turn call s).answer ∷ answers_of calls (turn call s).state

-- where a call finds no memory: an output is open, which is separate before the call or would be after it, a side would
-- become longer, and else the call would be done
abbrev pub MayStop : Call → State → Type 0
MayStop call s = MayWant s (outcome_of call s).state × ((turn call s).answer ≡ Done)

-- What came of one call: its turn, or running out of memory. Then nothing changed.
abbrev pub GivesTurn : Call → State → Result Answer AllocError → State → Type 0
GivesTurn call old (Ok answer) new = (answer ≡ (turn call old).answer) × (new ≡ (turn call old).state)
GivesTurn call old (Err e) new = MayStop call old × (new ≡ old)

-- The calls before it stand, the call at this place found no memory, and the answers from there on are as they were.
pub record StopsAt (at : ℕ) (calls : List Call) (old : State) (before : List Answer) (new : State)
    (answers : List Answer) : Type 0 where
  pub within : at < length calls
  pub due : IfSome (slice_get calls at) (λ call. MayStop call new)
  pub state : new ≡ after (take at calls) old
  pub told : answers ≡ answers_of (take at calls) old ++ drop at before
