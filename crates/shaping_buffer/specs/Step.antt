-- A cursor call's step: what it makes of the two lists, and when it is refused for length.
use Rattle.std.specs.Prelude.{◌≡◌, ℕ, ◌+◌, ◌-◌, ◌<◌, ◌==◌, ◌||◌, ◌⊎◌, Bool, true, false, List, [], ◌∷◌, ◌++◌, length}
use Rattle.std.specs.Prelude.{take, drop, map, None, Result, Ok, Err, max, nat_le, nat_lt, if◌then◌else◌}
use Rattle.std.specs.declared.alloc.AllocError.{AllocError}
use Rattle.rb_glyph.specs.declared.info.hb_glyph_info_t.{hb_glyph_info_t}
use Rattle.glyph_lists.specs.Replacement.{copies}
use Rattle.glyph_sides.specs.TwoLists.{Outgrows}
use Rattle.shaping_buffer.specs.State.{State, len}
use Rattle.shaping_buffer.specs.ClusterStep.{any_order, merge_input, head_of}

-- ---- the answer of a call

-- whether it was done, and the state that it leaves
pub record Outcome : Type 0 where
  pub done : Bool
  pub state : State

-- what was put out leaves the storage of the input where it has more glyphs than were read, and then stays separate
abbrev pub settled : State → State
settled s = record s { have_separate_output = s.have_separate_output || nat_lt s.idx (length s.out) }

-- The length rule: a call that would fill a side with `held` glyphs is refused exactly when they are more than max_len.
-- Then it only clears successful. Where a call puts nothing out, as `ensure` or `push_str`, `settled` changes nothing:
-- a buffer's output is separate already where it has more glyphs than were read.
abbrev pub limited : ℕ → State → State → Outcome
limited held before after =
    if nat_le held before.max_len then record { done = true; state = settled after }
    else record { done = false; state = record before { successful = false } }

-- a call that holds nothing is never refused
abbrev pub unlimited : State → Outcome
unlimited after = record { done = true; state = after }

-- refused because an earlier call was: nothing changes
abbrev pub refused : State → Outcome
refused s = record { done = false; state = s }

-- one side becomes longer than there is room for
abbrev pub Grows : State → State → Type 0
Grows before after = Outgrows before.room before.out after.out ⊎ Outgrows before.room before.input after.input

-- What came of a call: its outcome, or running out of memory, which comes where the call may allocate, hides no
-- refusal and changes nothing.
abbrev pub MeetsOrWants : Type 0 → Outcome → State → Result Bool AllocError → State → Type 0
MeetsOrWants may_want outcome old (Ok done) new = (done ≡ outcome.done) × (new ≡ outcome.state)
MeetsOrWants may_want outcome old (Err e) new = may_want × (outcome.done ≡ true) × (new ≡ old)

-- a cursor call may allocate where an output is open, which is separate before the call or after it, and a side
-- becomes longer than there is room for
abbrev pub MayWant : State → State → Type 0
MayWant before after =
    (before.have_output ≡ true) × (before.have_separate_output || after.have_separate_output ≡ true)
    × Grows before after

-- of a cursor call
abbrev pub Meets : Outcome → State → Result Bool AllocError → State → Type 0
Meets outcome old result new = MeetsOrWants (MayWant old outcome.state) outcome old result new

-- of a call that grows the list: it may allocate where the list becomes longer than there is room for
abbrev pub GrowthMeets : Outcome → State → Result Bool AllocError → State → Type 0
GrowthMeets outcome old result new =
    MeetsOrWants (Outgrows old.room old.input outcome.state.input) outcome old result new

-- of `ensure`: it may allocate where there is to be more room than there is
abbrev pub RoomMeets : ℕ → Outcome → State → Result Bool AllocError → State → Type 0
RoomMeets size outcome old result new = MeetsOrWants (old.room < size) outcome old result new

-- ---- the steps

-- the glyph under another id
abbrev pub with_id : ℕ → hb_glyph_info_t → hb_glyph_info_t
with_id id g = record g { glyph_id = id }

-- these glyphs are put out, and all else is as in `after`
abbrev pub put_out : List hb_glyph_info_t → State → State → Outcome
put_out xs s after = limited (length (s.out ++ xs)) s (record after { out = after.out ++ xs })

-- `clear_output`: an output is open with nothing in it, in the storage of the input, the cursor is at the start, and
-- positions are off
abbrev pub clear_output : State → State
clear_output s = record s { have_output = true; have_separate_output = false; out = []; idx = 0; positions = None }

-- n glyphs at the cursor are dropped; with no output only the cursor moves
abbrev pub skip_glyphs : ℕ → State → State
skip_glyphs n s = record s { input = (if s.have_output then drop n s.input else s.input); idx = s.idx + n }

-- `skip_glyph`
abbrev pub skip_glyph : State → State
skip_glyph s = skip_glyphs 1 s

-- `next_glyphs`: n glyphs at the cursor are put out; with no output only the cursor moves
abbrev pub next_glyphs : ℕ → State → Outcome
next_glyphs n s = if s.have_output then put_out (take n s.input) s (skip_glyphs n s) else unlimited (skip_glyphs n s)

-- `next_glyph`
abbrev pub next_glyph : State → Outcome
next_glyph s = next_glyphs 1 s

-- `replace_glyph`: the current glyph is put out under another id
abbrev pub replace_glyph : ℕ → State → Outcome
replace_glyph id s = put_out (map (with_id id) (take 1 s.input)) s (skip_glyph s)

-- the first n glyphs of the input are merged, or in any order of clusters marked, and in place of them copies of the
-- current glyph as it then stands are put out, one under each id; where they are too many, nothing is merged
abbrev pub replace_input : Bool → ℕ → List ℕ → State → Outcome
replace_input any_order n ids s =
    let m = merge_input any_order s.idx (s.idx + n) s in
    put_out (copies (head_of m) ids) s (skip_glyphs n m)

-- `replace_glyphs`
abbrev pub replace_glyphs : ℕ → List ℕ → State → Outcome
replace_glyphs n ids s = replace_input (any_order s) n ids s

-- the glyph that a new one is a copy of: the current glyph, or the last that was put out where nothing is left
abbrev pub glyph_to_copy : State → List hb_glyph_info_t
glyph_to_copy s = if length s.input == 0 then drop (length s.out - 1) s.out else take 1 s.input

-- `output_glyph`: a copy is put out under another id, and nothing where both sides are empty
abbrev pub output_glyph : ℕ → State → Outcome
output_glyph id s = put_out (map (with_id id) (glyph_to_copy s)) s s

-- `output_info`: this glyph is put out
abbrev pub output_info : hb_glyph_info_t → State → Outcome
output_info g s = put_out (g ∷ []) s s

-- `copy_glyph`: a copy of the current glyph is put out
abbrev pub copy_glyph : State → Outcome
copy_glyph s = put_out (take 1 s.input) s s

-- both sides, split at i; the cursor counts on by the glyphs that were put out, and back by those that were taken back,
-- not below the start
abbrev pub split_at : ℕ → State → State
split_at i s =
    record s {
      out = take i (s.out ++ s.input);
      input = drop i (s.out ++ s.input);
      idx = s.idx + (i - length s.out) - (length s.out - i);
    }

-- the last place that `move_to` may go to
abbrev pub last_place : State → ℕ
last_place s = if s.have_output then length s.out + length s.input else length s.input

-- `move_to`: both sides are split at i, and a move forward holds what was then put out, one backward what is then left
-- to read; with no output only the cursor moves; after a refusal nothing
abbrev pub move_to : ℕ → State → Outcome
move_to i s =
    let after = split_at i s in
    if s.have_output then
    (if s.successful then limited (if nat_le (length s.out) i then length after.out else length after.input) s after
    else refused s)
    else unlimited (record s { idx = i })

-- `sync`: the output is closed, and the list is what was put out, and then what was left to read; after a refusal
-- nothing
abbrev pub sync : State → Outcome
sync s =
    let l = s.out ++ s.input in
    let after = record s { have_output = false; have_separate_output = false; out = []; input = l; idx = 0 } in
    if s.successful then limited (length l) s after
    else refused s

-- `ensure`: room is made for n glyphs on each side, and nothing else changes
abbrev pub ensure : ℕ → State → Outcome
ensure n s = limited n s (record s { room = max s.room n })

-- ---- the storage

-- Both sides in one list: with no output open it is the input; else what was put out stands at its start, and what is
-- left to read from the cursor on. What stands between is left open.
pub record IsStorage (s : State) (l : List hb_glyph_info_t) : Type 0 where
  pub len : length l ≡ len s
  pub out : take (length s.out) l ≡ s.out
  pub input : (if s.have_output then drop s.idx l else l) ≡ s.input
