-- Which glyphs a call drops, which it brings, and that all others stay in their order.
use Rattle.std.specs.Prelude.{◌≡◌, ℕ, ◌+◌, ◌≤◌, Bool, true, false, List, [], ◌∷◌, ◌++◌, length, map, take, drop}
use Rattle.std.specs.Prelude.{if◌then◌else◌}
use Rattle.rb_glyph.specs.declared.info.hb_glyph_info_t.{hb_glyph_info_t}
use Rattle.glyph_lists.specs.Replacement.{copies}
use Rattle.glyph_laws.specs.Cores.{cores}
use Rattle.shaping_buffer.specs.State.{State}
use Rattle.shaping_buffer.specs.Step.{with_id, glyph_to_copy}
use Rattle.shaping_buffer.specs.ClusterStep.{head_of}
use Rattle.shaping_runs.specs.declared.call.Call.{Call}
use Rattle.shaping_runs.specs.declared.call.Call.TheVariants.{SkipGlyph, ReplaceGlyph, ReplaceGlyphs, OutputGlyph}
use Rattle.shaping_runs.specs.declared.call.Call.TheVariants.{OutputInfo, CopyGlyph, DeleteGlyph}
use Rattle.shaping_runs.specs.declared.call.Answer.{Answer}
use Rattle.shaping_runs.specs.declared.call.Answer.TheVariants.{Done}
use Rattle.shaping_runs.specs.Replay.{turn}

-- with no output open nothing stands on the out side, as in every buffer
abbrev pub IsShut : State → Type 0
IsShut s = s.have_output ≡ false → s.out ≡ []

-- ---- one call

-- How many glyphs at the cursor a call drops: `skip_glyph` and `delete_glyph` one, and a replacement those that it
-- replaces. With no output open `skip_glyph` moves the cursor alone.
abbrev pub dropped : Call → State → ℕ
dropped SkipGlyph s = if s.have_output then 1 else 0
dropped DeleteGlyph s = 1
dropped (ReplaceGlyph id) s = 1
dropped (ReplaceGlyphs num_in num_out ids) s = num_in
dropped call s = 0

-- the glyphs that it brings: those that take the place of others, copies, and the caller's
abbrev pub brought : Call → State → List hb_glyph_info_t
brought (ReplaceGlyph id) s = map (with_id id) (take 1 s.input)
brought (ReplaceGlyphs num_in num_out ids) s = copies (head_of s) (take num_out ids.now)
brought (OutputGlyph id) s = map (with_id id) (glyph_to_copy s)
brought (OutputInfo g) s = g ∷ []
brought CopyGlyph s = take 1 s.input
brought call s = []

abbrev pub is_done : Answer → Bool
is_done Done = true
is_done answer = false

-- What becomes of the glyphs of both sides, clusters and masks aside: where the out side ends, those that are dropped
-- give way to those that are brought. A call that is refused, or outside its condition, changes none.
abbrev pub exchanged : Call → State → List hb_glyph_info_t → List hb_glyph_info_t
exchanged call s l =
    let k = length s.out in
    if is_done (turn call s).answer then take k l ++ cores (brought call s) ++ drop (k + dropped call s) l else l

-- ---- lists of calls

-- how many glyphs the calls drop, and how many they bring
abbrev pub dropped_by : List Call → State → ℕ
dropped_by [] s = 0
dropped_by (call ∷ calls) s =
    (if is_done (turn call s).answer then dropped call s else 0) + dropped_by calls (turn call s).state

abbrev pub brought_by : List Call → State → ℕ
brought_by [] s = 0
brought_by (call ∷ calls) s =
    (if is_done (turn call s).answer then length (brought call s) else 0) + brought_by calls (turn call s).state

-- the items at which these tests are true, in their order
unfoldable pub picked : List Bool → List hb_glyph_info_t → List hb_glyph_info_t
picked [] l = []
picked (b ∷ bs) [] = []
picked (b ∷ bs) (g ∷ l) = if b then g ∷ picked bs l else picked bs l

-- a list is a part of another, in its order
abbrev pub IsPart : List hb_glyph_info_t → List hb_glyph_info_t → Type 0
IsPart l whole = (bs : List Bool) × (picked bs whole ≡ l)

-- Of the glyphs before and after, these are the same ones, in one order: no more are gone than were dropped, and no
-- more are new than were brought.
pub record StayInOrder (before after : List hb_glyph_info_t) (dropped brought : ℕ) : Type 0 where
  pub stay : List hb_glyph_info_t
  pub of_before : IsPart stay before
  pub of_after : IsPart stay after
  pub gone : length before ≤ length stay + dropped
  pub new : length after ≤ length stay + brought
