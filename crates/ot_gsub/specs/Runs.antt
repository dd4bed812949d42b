-- A lookup over a whole text: its glyphs in order, or where it has reverse substitutions, from the last to the first (OpenType, "Lookup
-- table" and "Reverse Chaining Contextual Single Substitution"; HarfBuzz, `apply_forward` and `apply_backward`).
use Rattle.std.specs.Prelude.{◌≡◌, ◌⊎◌, ◌&&◌, ◌+◌, ◌-◌, ◌^◌, ◌<◌, ◌≤◌, ℕ, zero, suc, Bool, true, false, List, length, min, nat_le, nat_lt}
use Rattle.std.specs.Prelude.{Option, None, Some, Result, Ok, Err, IsErr, ⊤, if◌then◌else◌}
use Rattle.std.specs.List.{list_any}
use Rattle.std.specs.declared.alloc.AllocError.{AllocError}
use Rattle.ot_lookups.specs.Lookup.{is_for}
use Rattle.ot_lookups.specs.LookupProps.{glyph_at}
use Rattle.ot_lookups.specs.declared.lookup_list.Lookup.{Lookup}
use Rattle.ot_layout.specs.declared.search.Reach.{Reach}
use Rattle.ot_substitution.specs.declared.substitution.Edit.{Edit}
use Rattle.shaping_buffer.specs.State.{State, len}
use Rattle.shaping_buffer.specs.ClusterStep.{unsafe_to_concat_from_outbuffer}
use Rattle.shaping_buffer.specs.Step.{Meets, clear_output, next_glyph, sync}
use Rattle.ot_gsub.specs.Edits.{made_in_place}
use Rattle.ot_gsub.specs.Nested.{Now}
use Rattle.ot_gsub.specs.Singles.{opened_at, starts_reverse}
use Rattle.ot_gsub.specs.Turn.{Becomes, IsDecided, IsTurnAt, subtables}
use Rattle.ot_gsub.specs.declared.nested.Step.{Step}
use Rattle.ot_gsub.specs.declared.nested.Step.TheVariants.{Applied, Passed, Refused}
use Rattle.ot_gsub.specs.declared.substitution.Substitutions.{Substitutions}

-- ---- one glyph

-- whether the lookup is for the glyph at a place: that has a bit of the feature, the lookup's flags do not ignore it, and one of its
-- subtables may be for it
abbrev pub takes : Substitutions → Lookup → ℕ → State → Bool
takes substitutions lookup place s = is_for lookup substitutions.options.mask (glyph_at s.input place)

-- The current glyph is put out as it stands. Memory may run out while what was put out has a storage of its own.
abbrev pub IsPutOut : Now → Result Bool AllocError → Now → Type 0
IsPutOut old (Ok done) new = Becomes (next_glyph old.buffer) old.random old done new
IsPutOut old (Err e) new = old.buffer.have_separate_output ≡ true

-- Where the lookup was applied the cursor stands behind what it took. Where it does nothing the glyph is put out.
abbrev pub IsPast : Result Step AllocError → Now → Result Bool AllocError → Now → Type 0
IsPast (Ok Applied) mid result new = (result ≡ Ok true) × (new ≡ mid)
IsPast (Ok Passed) mid result new = IsPutOut mid result new
IsPast (Ok Refused) mid result new = (result ≡ Ok false) × (new ≡ mid)
IsPast (Err e) mid result new = IsErr result

-- the lookup is tried at the current glyph, where lookups may apply others 64 levels deep
pub record IsTried (substitutions : Substitutions) (lookup : Lookup) (old : Now) (result : Result Bool AllocError) (new : Now) : Type 0 where
  pub step : Result Step AllocError
  pub mid : Now
  pub turn : IsTurnAt 64 substitutions lookup old step mid
  pub past : IsPast step mid result new

-- What comes of the current glyph: the lookup is tried there if it is for it, and else the glyph is put out as it stands.
pub record IsGlyphDone (substitutions : Substitutions) (lookup : Lookup) (old : Now) (result : Result Bool AllocError) (new : Now) : Type 0 where
  pub some : 0 < length old.buffer.input
  pub others : takes substitutions lookup 0 old.buffer ≡ false → IsPutOut old result new
  pub taken : takes substitutions lookup 0 old.buffer ≡ true → IsTried substitutions lookup old result new

-- ---- a text, from its beginning

pub record IsGlyphThen (substitutions : Substitutions) (lookup : Lookup) (rest : Now → Now → Type 0) (old new : Now) : Type 0 where
  pub mid : Now
  pub first : IsGlyphDone substitutions lookup old (Ok true) mid
  pub others : rest mid new

-- so many glyphs are done, each where the cursor then stands
unfoldable pub AreGlyphsDone : Substitutions → Lookup → ℕ → Now → Now → Type 0
AreGlyphsDone substitutions lookup zero old new = new ≡ old
AreGlyphsDone substitutions lookup (suc n) old new =
    IsGlyphThen substitutions lookup (AreGlyphsDone substitutions lookup n) old new

-- an output is opened, with the cursor at the first glyph
abbrev pub opened : Now → Now
opened old = record old { buffer = clear_output old.buffer }

-- All glyphs are done, and the output is closed. A lookup that leaves the cursor where it was is given up after as many turns as there
-- were glyphs.
pub record IsThrough (substitutions : Substitutions) (lookup : Lookup) (old : Now) (result : Result Bool AllocError) (new : Now) : Type 0 where
  pub turns : ℕ
  pub mid : Now
  pub glyphs : AreGlyphsDone substitutions lookup turns (opened old) mid
  pub all : (length mid.buffer.input ≡ 0) ⊎ (length old.buffer.input ≤ turns)
  pub closed : Meets (sync mid.buffer) mid.buffer result new.buffer
  pub others : new ≡ record mid { buffer = new.buffer }

-- a call was refused for length, or memory ran out
abbrev pub IsStop : Result Bool AllocError → Type 0
IsStop (Ok done) = done ≡ false
IsStop (Err e) = ⊤

-- some glyphs are done, and the next one is the last
pub record IsStopped (substitutions : Substitutions) (lookup : Lookup) (old : Now) (result : Result Bool AllocError) : Type 0 where
  pub turns : ℕ
  pub mid : Now
  pub after : Now
  pub glyphs : AreGlyphsDone substitutions lookup turns old mid
  pub last : IsGlyphDone substitutions lookup mid result after
  pub stop : IsStop result

abbrev pub IsForward : Substitutions → Lookup → Now → Result Bool AllocError → Now → Type 0
IsForward substitutions lookup old result new =
    IsThrough substitutions lookup old result new ⊎ IsStopped substitutions lookup (opened old) result

-- ---- a text, from its end

-- the glyphs that were looked at around a place are marked
abbrev pub mark_around : ℕ → Reach → State → State
mark_around place reach s =
    let to = min (min (place + reach.to) (2 ^ 64 - 1)) (len s) in
    if nat_lt 0 reach.to && nat_le reach.from to then unsafe_to_concat_from_outbuffer (Some reach.from) (Some to) s else s

-- the edit at a place, if there is one, is made in place
abbrev pub made_if : List ℕ → ℕ → Option Edit → State → State
made_if gdef place None s = s
made_if gdef place (Some edit) s = made_in_place gdef place edit s

-- the lookup at a place: what is decided is as where the glyphs before it were put out
pub record IsTriedAt (substitutions : Substitutions) (lookup : Lookup) (place : ℕ) (old new : Now) : Type 0 where
  pub edit : Option Edit
  pub reach : Reach
  pub places : List ℕ
  -- how many more lookups may be applied by others
  pub left : ℕ
  pub decided : IsDecided substitutions lookup false (opened_at place old.buffer) places edit
  pub fewer : left ≤ old.left
  pub made : new ≡ record old {
    buffer = made_if substitutions.gdef.now.table.now place edit (mark_around place reach old.buffer);
    left = left;
  }

-- what comes of the glyph at a place: nothing, if the lookup is not for it
pub record IsPlaceDone (substitutions : Substitutions) (lookup : Lookup) (place : ℕ) (old new : Now) : Type 0 where
  pub others : takes substitutions lookup place old.buffer ≡ false → new ≡ old
  pub taken : takes substitutions lookup place old.buffer ≡ true → IsTriedAt substitutions lookup place old new

pub record IsPlaceThen (substitutions : Substitutions) (lookup : Lookup) (place : ℕ) (rest : Now → Now → Type 0) (old new : Now) : Type 0 where
  pub mid : Now
  pub first : IsPlaceDone substitutions lookup place old mid
  pub others : rest mid new

-- so many glyphs are done, from the last of them to the first, so that each sees what became of those after it
unfoldable pub AreDoneBackward : Substitutions → Lookup → ℕ → Now → Now → Type 0
AreDoneBackward substitutions lookup zero old new = new ≡ old
AreDoneBackward substitutions lookup (suc n) old new =
    IsPlaceThen substitutions lookup n (AreDoneBackward substitutions lookup n) old new

-- ---- a text

-- whether the lookup is for a glyph of the text
abbrev pub takes_some : Substitutions → Lookup → State → Bool
takes_some substitutions lookup s = list_any (is_for lookup substitutions.options.mask) s.input

-- Where the lookup is for no glyph nothing changes. Else it goes over the text, from the end if it has reverse substitutions.
pub record IsRunOf (substitutions : Substitutions) (lookup : Lookup) (old : Now) (result : Result Bool AllocError) (new : Now) : Type 0 where
  pub none : takes_some substitutions lookup old.buffer ≡ false → (result ≡ Ok true) × (new ≡ old)
  pub forward : takes_some substitutions lookup old.buffer ≡ true → starts_reverse (subtables substitutions lookup) ≡ false
      → IsForward substitutions lookup old result new
  pub backward : takes_some substitutions lookup old.buffer ≡ true → starts_reverse (subtables substitutions lookup) ≡ true
      → (result ≡ Ok true) × AreDoneBackward substitutions lookup (length old.buffer.input) old new

-- a lookup that is not there changes nothing
abbrev pub IsRun : Substitutions → Option Lookup → Now → Result Bool AllocError → Now → Type 0
IsRun substitutions None old result new = (result ≡ Ok true) × (new ≡ old)
IsRun substitutions (Some lookup) old result new = IsRunOf substitutions lookup old result new

-- ---- on the way

-- at least so many glyphs are done, and the lookup is for the one after them
pub record HasDone (substitutions : Substitutions) (lookup : Lookup) (least : ℕ) (old new : Now) : Type 0 where
  pub turns : ℕ
  pub from : least ≤ turns
  pub glyphs : AreGlyphsDone substitutions lookup turns old new
  pub next : 0 < length new.buffer.input → takes substitutions lookup 0 new.buffer ≡ true

-- so far, or a glyph stopped it
abbrev pub IsUnderWay : Substitutions → Lookup → ℕ → Now → Result Bool AllocError → Now → Type 0
IsUnderWay substitutions lookup least old (Ok true) new = HasDone substitutions lookup least old new
IsUnderWay substitutions lookup least old (Ok false) new = IsStopped substitutions lookup old (Ok false)
IsUnderWay substitutions lookup least old (Err e) new = IsStopped substitutions lookup old (Err e)

-- no glyph is left, or as many as there were are done
pub record IsRestDone (substitutions : Substitutions) (lookup : Lookup) (old : Now) (result : Result Bool AllocError) (new : Now) : Type 0 where
  pub least : ℕ
  pub way : IsUnderWay substitutions lookup least old result new
  pub all : (length new.buffer.input ≡ 0) ⊎ (length old.buffer.input ≤ least)

-- memory runs out where glyphs are put out that the lookup is not for, from the place `start` on
pub record IsWanting (lookup : Lookup) (mask start : ℕ) (s : State) : Type 0 where
  pub separate : s.have_separate_output ≡ true
  pub some : 0 < length s.input
  pub first : start ≡ 0 → is_for lookup mask (glyph_at s.input 0) ≡ false
