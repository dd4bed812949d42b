-- The lookups that a rule applies to the glyphs of its match (OpenType, "Sequence Lookup Record"; HarfBuzz, `apply_lookup`).
use Rattle.std.specs.Prelude.{◌≡◌, ℕ, zero, suc, ◌+◌, ◌-◌, ◌^◌, ◌&&◌, Bool, true, false, List, [], ◌∷◌, length, min, nat_lt, slice_index}
use Rattle.std.specs.Prelude.{Option, None, Some, if◌then◌else◌}
use Rattle.ot_contexts.specs.Context.{record_at}
use Rattle.ot_contexts.specs.declared.context.Fit.{Fit}
use Rattle.ot_contexts.specs.declared.context.SequenceLookupRecord.{SequenceLookupRecord}
use Rattle.shaping_buffer.specs.State.{State}
use Rattle.shaping_buffer.specs.ClusterStep.{unsafe_to_break_from_outbuffer}
use Rattle.shaping_buffer.specs.Step.{move_to}
use Rattle.ot_contexts.specs.MatchPositions.{Match, followed, is_behind, is_full, match_at}
use Rattle.ot_gsub.specs.declared.nested.Step.{Step}
use Rattle.ot_gsub.specs.declared.nested.Step.TheVariants as steps
use Rattle.ot_gsub.specs.declared.nested.Turn.{Turn}
use Rattle.ot_gsub.specs.declared.nested.Turn.TheVariants.{On, Enough, Refused}
use Rattle.ot_gsub.specs.declared.substitution.Progress.{Progress}

-- ---- what is marked

-- the glyphs from a place in what was put out up to so many from the cursor on are marked as unsafe to break
abbrev pub mark_from : ℕ → ℕ → State → State
mark_from from ahead s =
    unsafe_to_break_from_outbuffer (Some (min from (length s.out))) (Some (min (s.idx + ahead) (2 ^ 64 - 1))) s

-- how many glyphs both sides have; no more than 64 bits hold
abbrev pub both_len : State → ℕ
both_len s = min (length s.out + length s.input) (2 ^ 64 - 1)

-- A lookup was applied to the glyph of this number, where both sides had `before` glyphs. If that stood behind the end of the match,
-- what became of it is marked with the last glyph of the match, and where a glyph was dropped, with the next one. HarfBuzz marks
-- nothing there.
abbrev pub mark_behind : List ℕ → ℕ → ℕ → ℕ → State → State
mark_behind places end number before s =
    if is_behind places end number then mark_from (end - 1) (if nat_lt (both_len s) before then 1 else 0) s else s

-- ---- one record

-- a buffer, the state of the random numbers, and how many more lookups others may apply
pub record Now : Type 0 where
  pub buffer : State
  pub random : ℕ
  pub left : ℕ

abbrev pub now_of : State → Progress → Now
now_of s progress = record { buffer = s; random = progress.random_state; left = progress.search.budget.nested }

-- what comes of the lookup of an index at the cursor, where another one applies it
abbrev pub Applies : Type 1
Applies = ℕ → Now → Step → Now → Type 0

-- A lookup was tried at a glyph of the match. Where it was applied the match follows, and unless it is full, so does the next record.
abbrev pub IsFollowed : ℕ → ℕ → Step → Match → Now → Turn → Match → Now → Type 0
IsFollowed number before steps.Passed m mid turn n new = (turn ≡ On) × (n ≡ m) × (new ≡ mid)
IsFollowed number before steps.Refused m mid turn n new = (turn ≡ Refused) × (n ≡ m) × (new ≡ mid)
IsFollowed number before steps.Applied m mid turn n new =
    let after = both_len mid.buffer in
    (turn ≡ (if is_full m before after then Enough else On)) × (n ≡ followed m number before after)
    × (new ≡ record mid { buffer = mark_behind m.places m.end number before mid.buffer })

-- a lookup is applied at the cursor, to the glyph of this number of a match, where both sides had so many glyphs before
pub record HasApplied (applies : Applies) (number lookup before : ℕ) (m : Match) (old : Now) (turn : Turn) (n : Match) (new : Now) : Type 0 where
  pub step : Step
  pub mid : Now
  pub applied : applies lookup old step mid
  pub follows : IsFollowed number before step m mid turn n new

-- the same at a place that the cursor is moved to, unless that is refused
pub record IsAppliedAt (applies : Applies) (place number lookup : ℕ) (m : Match) (old : Now) (turn : Turn) (n : Match) (new : Now) : Type 0 where
  pub refused : (move_to place old.buffer).done ≡ false
      → (turn ≡ Refused) × (n ≡ m) × (new ≡ record old { buffer = (move_to place old.buffer).state })
  pub moved : (move_to place old.buffer).done ≡ true
      → HasApplied applies number lookup (both_len old.buffer) m (record old { buffer = (move_to place old.buffer).state }) turn n new

-- whether a record is for a glyph of the match that is still there; it is passed over where its number is past the match
abbrev pub is_there : SequenceLookupRecord → Match → State → Bool
is_there r m s =
    nat_lt r.sequence_index (length m.places) && nat_lt (slice_index m.places r.sequence_index) (both_len s)

-- a record of a rule: its lookup is applied at the place of its glyph, as the places have moved
pub record IsRecordDone (applies : Applies) (r : SequenceLookupRecord) (m : Match) (old : Now) (turn : Turn) (n : Match) (new : Now) : Type 0 where
  pub passed : is_there r m old.buffer ≡ false → (turn ≡ On) × (n ≡ m) × (new ≡ old)
  pub there : is_there r m old.buffer ≡ true
      → IsAppliedAt applies (slice_index m.places r.sequence_index) r.sequence_index r.lookup m old turn n new

-- ---- all records

-- a record before others, if there is one, or else the end of all
abbrev pub record_before : Option SequenceLookupRecord → List SequenceLookupRecord → List SequenceLookupRecord
record_before None rest = []
record_before (Some r) rest = r ∷ rest

-- so many records from a number on, or those before the place where their table is cut short
unfoldable pub records_from : List ℕ → ℕ → ℕ → List SequenceLookupRecord
records_from table k zero = []
records_from table k (suc n) = record_before (record_at table k) (records_from table (k + 1) n)

-- the cursor goes behind the match, or to the end of the text
abbrev pub IsBehind : Match → Now → Bool → Now → Type 0
IsBehind m old done new =
    let outcome = move_to (min m.end (both_len old.buffer)) old.buffer in
    (done ≡ outcome.done) × (new ≡ record old { buffer = outcome.state })

-- what follows after a record
abbrev pub IsRest : (Match → Now → Bool → Now → Type 0) → Turn → Match → Now → Bool → Now → Type 0
IsRest rest On m mid done new = rest m mid done new
IsRest rest Enough m mid done new = IsBehind m mid done new
IsRest rest Refused m mid done new = (done ≡ false) × (new ≡ mid)

-- a record is done, and then the rest
pub record IsDoneThen (applies : Applies) (rest : Match → Now → Bool → Now → Type 0) (r : SequenceLookupRecord) (m : Match) (old : Now) (done : Bool) (new : Now) : Type 0 where
  pub turn : Turn
  pub n : Match
  pub mid : Now
  pub first : IsRecordDone applies r m old turn n mid
  pub others : IsRest rest turn n mid done new

-- records are done in order, and then the cursor goes behind the match
unfoldable pub AreDone : Applies → List SequenceLookupRecord → Match → Now → Bool → Now → Type 0
AreDone applies [] m old done new = IsBehind m old done new
AreDone applies (r ∷ rest) m old done new = IsDoneThen applies (AreDone applies rest) r m old done new

-- a rule that fits: what it looked at is marked, and its records are done, where the glyphs of its match stand at these places from the
-- cursor on
abbrev pub IsFitDone : Applies → Fit → List ℕ → Now → Bool → Now → Type 0
IsFitDone applies fit places old done new =
    let marked = mark_from fit.from fit.to old.buffer in
    AreDone applies (records_from fit.records.now 0 fit.record_count) (match_at (length marked.out) places fit.end)
    (record old { buffer = marked }) done new
