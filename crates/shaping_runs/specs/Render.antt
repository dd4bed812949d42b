-- Rendering: a text is pushed at a cluster level, features set mask bits, calls are made up to the first that is
-- refused, and each glyph is put at position 0.
use Rattle.std.specs.Prelude.{◌≡◌, ◌≢◌, ℕ, ◌+◌, ◌^◌, ◌<◌, ◌≤◌, ◌==◌, true, false, List, [], ◌∷◌, ◌++◌, length, take}
use Rattle.std.specs.Prelude.{drop, Some, None, IfSome, slice_get, if◌then◌else◌}
use Rattle.std.specs.List.{All}
use Rattle.rb_text.specs.declared.feature.Feature.{Feature}
use Rattle.shaping_buffer.specs.declared.buffer.TheConstants.hb_buffer_t.{MAX_LEN_DEFAULT, MAX_OPS_DEFAULT}
use Rattle.shaping_buffer.specs.declared.cluster_level.BufferClusterLevel.{BufferClusterLevel}
use Rattle.shaping_buffer.specs.ClusterLevel.{level_of}
use Rattle.shaping_buffer.specs.State.{State, empty_state}
use Rattle.shaping_buffer.specs.Step.{Outcome}
use Rattle.shaping_buffer.specs.Pushed.{pushed}
use Rattle.shaping_buffer.specs.ClusterStep.{set_masks}
use Rattle.shaping_buffer.specs.Positions.{with_zero_positions}
use Rattle.shaping_runs.specs.declared.call.Call.{Call}
use Rattle.shaping_runs.specs.declared.call.Answer.{Answer}
use Rattle.shaping_runs.specs.declared.call.Answer.TheVariants as answer
use Rattle.shaping_runs.specs.declared.rendering.RenderFault.{RenderFault}
use Rattle.shaping_runs.specs.declared.rendering.RenderFault.TheVariants.{Length, Refused, Memory, TooManyFeatures}
use Rattle.shaping_runs.specs.declared.rendering.RenderFault.TheVariants.{OutputLeftOpen}
use Rattle.shaping_runs.specs.Replay.{turn, after, answers_of, StopsAt}

-- ---- the text with its features

-- what pushing the text into a new buffer of a level gives
abbrev pub pushed_text : BufferClusterLevel → List ℕ → Outcome
pushed_text level text = pushed text (record (empty_state MAX_LEN_DEFAULT MAX_OPS_DEFAULT) { cluster_level = level_of level })

-- the mask bit of the feature at a place: bit 8 for the first, as the lower ones are for glyph flags
abbrev pub feature_bit : ℕ → ℕ
feature_bit i = 2 ^ (8 + i)

-- the bit of the feature at this place is set in its range, or cleared where its value is 0
abbrev pub with_feature : ℕ → Feature → State → State
with_feature i f s = set_masks (if f.value == 0 then 0 else feature_bit i) (feature_bit i) f.start f.end s

-- the same of each feature, the first of which has this place
abbrev pub with_features : ℕ → List Feature → State → State
with_features i [] s = s
with_features i (f ∷ fs) s = with_features (i + 1) fs (with_feature i f s)

-- the text with its features, before the calls
abbrev pub text_with_features : BufferClusterLevel → List ℕ → List Feature → State
text_with_features level text features = with_features 0 features (pushed_text level text).state

-- ---- the calls

-- no call is refused
abbrev pub NoneRefused : List Call → State → Type 0
NoneRefused calls s = All (λ a. a ≢ answer.Refused) (answers_of calls s)

-- none is refused, and the answers to all are given
pub record AnswersAll (calls : List Call) (old : State) (answers : List Answer) : Type 0 where
  pub unrefused : NoneRefused calls old
  pub told : answers ≡ answers_of calls old

-- the call at this place is the first that is refused: the answers up to its own are given, and the others are as they
-- were
pub record RefusedAt (at : ℕ) (calls : List Call) (old : State) (before answers : List Answer) : Type 0 where
  pub within : at < length calls
  pub first : NoneRefused (take at calls) old
  pub refused : IfSome (slice_get calls at) (λ call. (turn call (after (take at calls) old)).answer ≡ answer.Refused)
  pub told : answers ≡ answers_of (take (at + 1) calls) old ++ drop (at + 1) before

-- the call at this place finds no memory, and none before it is refused
pub record WantsMemoryAt (at : ℕ) (calls : List Call) (old : State) (before answers : List Answer) : Type 0 where
  pub unrefused : NoneRefused (take at calls) old
  pub stops : StopsAt at calls old before (after (take at calls) old) answers

-- why not all calls are made
abbrev pub StopsWith : RenderFault → List Call → State → List Answer → List Answer → Type 0
StopsWith (Refused at) calls old before answers = RefusedAt at calls old before answers
StopsWith (Memory (Some at)) calls old before answers = WantsMemoryAt at calls old before answers
StopsWith _ calls old before answers = ⊥

-- ---- the whole

-- why there is no buffer over the text: it is too long, or there is no memory for it; an empty text asks for none
abbrev pub FailsOnText : RenderFault → BufferClusterLevel → List ℕ → Type 0
FailsOnText Length level text = (pushed_text level text).done ≡ false
FailsOnText (Memory None) level text = ((pushed_text level text).done ≡ true) × (0 < length text)
FailsOnText _ level text = ⊥

-- the features are not too many and the text fits, so the calls are made
pub record ComesToCalls (level : BufferClusterLevel) (text : List ℕ) (features : List Feature) : Type 0 where
  pub few : length features ≤ 24
  pub fits : (pushed_text level text).done ≡ true

-- Done: the glyphs are those of the text after its features and all calls, at positions of 0.
pub record RendersTo (level : BufferClusterLevel) (text : List ℕ) (features : List Feature) (calls : List Call)
    (rendered : State) (told : List Answer) : Type 0 where
  pub comes : ComesToCalls level text features
  pub answers : AnswersAll calls (text_with_features level text features) told
  pub closed : (after calls (text_with_features level text features)).have_output ≡ false
  pub glyphs : rendered ≡ with_zero_positions (after calls (text_with_features level text features))

-- Not done: why, and what the answers hold.
abbrev pub Fails : RenderFault → BufferClusterLevel → List ℕ → List Feature → List Call → List Answer → List Answer
    → Type 0
Fails TooManyFeatures level text features calls before answers = (24 < length features) × (answers ≡ before)
Fails Length level text features calls before answers =
    (length features ≤ 24) × ((pushed_text level text).done ≡ false) × (answers ≡ before)
Fails (Memory None) level text features calls before answers =
    ComesToCalls level text features × (0 < length text) × (answers ≡ before)
Fails (Refused at) level text features calls before answers =
    ComesToCalls level text features × RefusedAt at calls (text_with_features level text features) before answers
Fails (Memory (Some at)) level text features calls before answers =
    ComesToCalls level text features × WantsMemoryAt at calls (text_with_features level text features) before answers
Fails OutputLeftOpen level text features calls before answers =
    ComesToCalls level text features
    × AnswersAll calls (text_with_features level text features) answers
    × ((after calls (text_with_features level text features)).have_output ≡ true)
