-- What a lookup does at the cursor: the edit of its first subtable that has one there, and what comes of it.
use Rattle.std.specs.Prelude.{◌≡◌, ℕ, zero, suc, ◌+◌, ◌-◌, ◌^◌, ◌==◌, ◌&&◌, ◌<◌, ◌≤◌, Bool, true, false, List, length, min, nat_le, nat_lt, slice_get}
use Rattle.std.specs.Prelude.{Option, None, Some, Result, Ok, Err, ⊤, if◌then◌else◌}
use Rattle.std.specs.declared.alloc.AllocError.{AllocError}
use Rattle.rb_glyph.specs.Fields.{field}
use Rattle.ot_substitution.specs.FirstEdit.{IsFirstEdit}
use Rattle.ot_lookups.specs.Subtables.{subtables_of}
use Rattle.ot_layout.specs.SkippingIterator.{over_context, over_input}
use Rattle.ot_lookups.specs.declared.lookup_list.Lookup.{Lookup}
use Rattle.ot_layout.specs.declared.search.Reach.{Reach}
use Rattle.ot_layout.specs.declared.search.ApplyContext.{ApplyContext}
use Rattle.ot_lookups.specs.declared.subtable.Subtable.{Subtable}
use Rattle.ot_substitution.specs.declared.substitution.Edit.{Edit}
use Rattle.ot_substitution.specs.declared.substitution.Edit.TheVariants.{Replace, Choose, Multiply, Ligate, Apply, ReplaceInPlace}
use Rattle.ot_layout.specs.declared.skipping_iterator.LookupOptions.{LookupOptions}
use Rattle.shaping_buffer.specs.State.{State, len, lookahead_len}
use Rattle.shaping_buffer.specs.ClusterStep.{unsafe_to_concat, unsafe_to_concat_from_outbuffer}
use Rattle.shaping_buffer.specs.Step.{Outcome, unlimited}
use Rattle.ot_gsub.specs.Edits.{choose, multiply, next_random, replace}
use Rattle.ot_gsub.specs.Ligatures.{ligate}
use Rattle.ot_gsub.specs.Nested.{Applies, IsFitDone, Now}
use Rattle.ot_gsub.specs.Writing.{glyph_ahead}
use Rattle.ot_gsub.specs.declared.nested.Step.{Step}
use Rattle.ot_gsub.specs.declared.nested.Step.TheVariants.{Applied, Passed, Refused}
use Rattle.ot_gsub.specs.declared.substitution.Substitutions.{Substitutions}

-- ---- what is decided

-- the subtables of a lookup
abbrev pub subtables : Substitutions → Lookup → List Subtable
subtables substitutions lookup = subtables_of substitutions.list.now.subtables.items lookup

-- the syllable of the current glyph, where all glyphs of a match are of one
abbrev pub syllable_at : LookupOptions → State → ℕ
syllable_at options s = if options.per_syllable then field (glyph_ahead 0 s).var1 24 8 else 0

-- the glyphs on both sides of the cursor, and the walks of the lookup over them
pub record IsApplyContext (substitutions : Substitutions) (lookup : Lookup) (s : State) (ctx : ApplyContext) : Type 0 where
  pub out : ctx.out.now ≡ s.out
  pub input : ctx.input.now ≡ s.input
  pub iterator : ctx.iterator ≡ over_input lookup.lookup_props substitutions.options false
  pub context : ctx.context ≡ over_context lookup.lookup_props substitutions.options false
  pub syllable : ctx.syllable ≡ syllable_at substitutions.options s
  pub level : ctx.is_level ≡ (length s.out == s.idx)

-- how many glyphs at the cursor a lookup is not tried at any more: the one at which it does nothing; where a call was refused it goes on
-- nowhere
abbrev pub passed_by : Step → Option ℕ
passed_by Applied = Some 0
passed_by Passed = Some 1
passed_by Refused = None

-- the edit of the first subtable of a lookup that has one at the cursor, and the places of the glyphs of its match from there on
pub record IsDecided (substitutions : Substitutions) (lookup : Lookup) (is_nested : Bool) (s : State) (places : List ℕ) (edit : Option Edit) : Type 0 where
  pub ctx : ApplyContext
  pub are : IsApplyContext substitutions lookup s ctx
  pub first : IsFirstEdit substitutions.list.now.coverages.items substitutions.options ctx is_nested
      (subtables substitutions lookup) places edit

-- ---- what is marked besides

-- the glyphs that rules looked at which did not fit
abbrev pub mark_reach : Reach → State → State
mark_reach reach s =
    if (reach.to == 0) && nat_le (length s.out) reach.from then s
    else unsafe_to_concat_from_outbuffer (Some (min reach.from (length s.out)))
    (Some (min (s.idx + reach.to) (2 ^ 64 - 1))) s

-- how many glyphs are left beyond those that other rules would have looked at
abbrev pub rest_beyond : Edit → State → ℕ
rest_beyond (Ligate ligation) s = lookahead_len s - ligation.beyond
rest_beyond (Apply fit) s = lookahead_len s - fit.beyond
rest_beyond (Replace glyph) s = lookahead_len s
rest_beyond (Choose set) s = lookahead_len s
rest_beyond (Multiply sequence) s = lookahead_len s
rest_beyond (ReplaceInPlace change) s = lookahead_len s

-- the glyphs from the cursor on that are not among so many at the end
abbrev pub mark_beyond : ℕ → State → State
mark_beyond rest s =
    if nat_lt rest (lookahead_len s) then unsafe_to_concat (Some s.idx) (Some (len s - rest)) s else s

-- ---- what comes of it

-- memory may run out: where one glyph comes for one, only while what was put out has a storage of its own
abbrev pub MayRunOut : Edit → State → Type 0
MayRunOut (Replace glyph) s = s.have_separate_output ≡ true
MayRunOut (Choose set) s = ⊤
MayRunOut (Multiply sequence) s = ⊤
MayRunOut (ReplaceInPlace change) s = ⊤
MayRunOut (Ligate ligation) s = ⊤
MayRunOut (Apply fit) s = ⊤

-- an outcome, with this state of the random numbers
abbrev pub Becomes : Outcome → ℕ → Now → Bool → Now → Type 0
Becomes outcome random old done new =
    (done ≡ outcome.done) × (new ≡ record old { buffer = outcome.state; random = random })

-- what comes of an edit, where the glyphs of its match stand at these places, and lookups apply others so
abbrev pub IsEdited : Applies → List ℕ → List ℕ → Edit → Now → Bool → Now → Type 0
IsEdited applies gdef places (Replace glyph) old done new = Becomes (replace gdef glyph old.buffer) old.random old done new
IsEdited applies gdef places (Choose set) old done new =
    let random = next_random old.random in
    Becomes (choose gdef set.table.now random old.buffer) random old done new
IsEdited applies gdef places (Multiply sequence) old done new =
    Becomes (multiply gdef sequence.table.now old.buffer) old.random old done new
IsEdited applies gdef places (Ligate ligation) old done new =
    Becomes (ligate gdef ligation places old.buffer) old.random old done new
IsEdited applies gdef places (Apply fit) old done new = IsFitDone applies fit places old done new
IsEdited applies gdef places (ReplaceInPlace change) old done new = Becomes (unlimited old.buffer) old.random old done new

-- an edit ends so, unless memory ran out
abbrev pub Ends : Applies → List ℕ → List ℕ → Edit → Now → Result Bool AllocError → Now → Type 0
Ends applies gdef places edit old (Ok done) new = IsEdited applies gdef places edit old done new
Ends applies gdef places edit old (Err e) new = MayRunOut edit old.buffer

-- and then what other rules would have looked at is marked
pub record Comes (applies : Applies) (gdef places : List ℕ) (edit : Edit) (old : Now) (step : Step) (new : Now) : Type 0 where
  pub done : Bool
  pub mid : Now
  pub edited : IsEdited applies gdef places edit old done mid
  pub answer : step ≡ (if done then Applied else Refused)
  pub state : new ≡ (if done then record mid { buffer = mark_beyond (rest_beyond edit old.buffer) mid.buffer } else mid)

abbrev pub IsMade : Applies → List ℕ → List ℕ → Option Edit → Now → Result Step AllocError → Now → Type 0
IsMade applies gdef places None old result new = (result ≡ Ok Passed) × (new ≡ old)
IsMade applies gdef places (Some edit) old (Ok step) new = Comes applies gdef places edit old step new
IsMade applies gdef places (Some edit) old (Err e) new = MayRunOut edit old.buffer

-- A lookup at the cursor: what it looked at is marked, and its edit is made.
pub record IsTurn (applies : Applies) (substitutions : Substitutions) (lookup : Lookup) (is_nested : Bool) (old : Now) (result : Result Step AllocError) (new : Now) : Type 0 where
  pub edit : Option Edit
  pub reach : Reach
  -- where the glyphs of the match stand, counted from the cursor
  pub places : List ℕ
  -- how many more lookups may be applied by others
  pub left : ℕ
  pub decided : IsDecided substitutions lookup is_nested old.buffer places edit
  pub fewer : left ≤ old.left
  pub made : IsMade applies substitutions.gdef.now.table.now places edit
      (record old { buffer = mark_reach reach old.buffer; left = left }) result new

-- ---- lookups that others apply

-- shaping is given up: the lookup does nothing
abbrev pub IsGivenUp : Now → Step → Now → Type 0
IsGivenUp old step new =
    (step ≡ Passed) × (new ≡ record old { buffer = record old.buffer { shaping_failed = true } })

-- a lookup that is not there, or where no glyph is left, does nothing
abbrev pub IsPassed : Now → Step → Now → Type 0
IsPassed old step new = (step ≡ Passed) × (new ≡ old)

abbrev pub IsTurnOf : (Lookup → Now → Result Step AllocError → Now → Type 0) → Option Lookup → Now → Step → Now → Type 0
IsTurnOf turn None old step new = IsPassed old step new
IsTurnOf turn (Some lookup) old step new = turn lookup old (Ok step) new

-- the lookup of an index at the cursor, where others may be applied so many levels deep, and one more is applied
pub record IsNext (turn : Lookup → Now → Result Step AllocError → Now → Type 0) (lookups : List Lookup) (index : ℕ) (old : Now) (step : Step) (new : Now) : Type 0 where
  pub spent : old.left ≡ 0 → IsGivenUp old step new
  pub none : 0 < old.left → length old.buffer.input ≡ 0 → IsPassed (record old { left = old.left - 1 }) step new
  pub some : 0 < old.left → 0 < length old.buffer.input
      → IsTurnOf turn (slice_get lookups index) (record old { left = old.left - 1 }) step new

-- a lookup that another one applies, where lookups may apply others so many levels deep (HarfBuzz, `recurse`)
unfoldable pub nested : ℕ → Substitutions → Applies
nested zero substitutions index old step new = IsGivenUp old step new
nested (suc depth) substitutions index old step new =
    IsNext (λ lookup. IsTurn (nested depth substitutions) substitutions lookup (nat_lt depth 64))
    substitutions.list.now.lookups.items index old step new

-- a lookup at the cursor, where lookups may apply others so many levels deep
abbrev pub IsTurnAt : ℕ → Substitutions → Lookup → Now → Result Step AllocError → Now → Type 0
IsTurnAt depth substitutions lookup old result new =
    IsTurn (nested depth substitutions) substitutions lookup (nat_lt depth 64) old result new
