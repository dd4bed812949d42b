-- A lookup over a text: at each glyph that it is for its subtables are tried in order, from the first glyph to the last (OpenType, "Lookup
-- table"; HarfBuzz, `apply_forward`).
use Rattle.std.specs.Prelude.{◌≡◌, ◌<◌, ◌≤◌, ℕ, zero, suc, ◌+◌, true, false, Option, None, Some, length, max, unwrap_or}
use Rattle.shaping_buffer.specs.State.{State}
use Rattle.ot_lookups.specs.Lookup.{is_for}
use Rattle.ot_lookups.specs.LookupProps.{glyph_at}
use Rattle.ot_lookups.specs.declared.lookup_list.Lookup.{Lookup}
use Rattle.ot_lookups.specs.declared.lookup_list.LookupList.{LookupList}
use Rattle.ot_layout.specs.declared.skipping_iterator.LookupOptions.{LookupOptions}
use Rattle.ot_gpos_tables.specs.declared.instance.Instance.{Instance}
use Rattle.ot_gpos.specs.Attachments.{nothing_sought}
use Rattle.ot_gpos.specs.Lookups.{Applied, Outcome, Text, applied, text_of}
use Rattle.ot_gpos.specs.Nested.{IsTried}
use Rattle.ot_gpos.specs.declared.marks.LastBase.{LastBase}

-- a lookup on its way over a text: the text, and the place where it goes on
pub record Run : Type 0 where
  pub text : Text
  pub next : ℕ

abbrev pub run : Text → ℕ → Run
run text next = record { text = text; next = next }

-- a lookup goes on where the subtable says that did something, and at least one glyph further
abbrev pub place_after : ℕ → Option ℕ → ℕ
place_after place next = max (unwrap_or next 0) (place + 1)

abbrev pub gone_on : ℕ → Outcome → Run
gone_on place o = run o.text (place_after place o.next)

-- the lookup is tried at the glyph of a place, where lookups apply others up to 64 levels deep, and goes on
pub record HasGoneOn (a : Applied) (place : ℕ) (old new : Run) : Type 0 where
  pub outcome : Outcome
  pub tried : IsTried 64 a place old.text outcome
  pub goes_on : new ≡ gone_on place outcome

-- What comes of the glyph at a place. Nothing does before the place where the lookup goes on, and nothing of a glyph that it is not for.
pub record IsGlyphDone (a : Applied) (place : ℕ) (old new : Run) : Type 0 where
  pub before : place < old.next → new ≡ old
  pub other : old.next ≤ place → is_for a.lookup a.options.mask (glyph_at old.text.buffer.input place) ≡ false → new ≡ old
  pub here : old.next ≤ place → is_for a.lookup a.options.mask (glyph_at old.text.buffer.input place) ≡ true
      → HasGoneOn a place old new

-- one glyph after others
pub record IsNextDone (others : Run → Type 0) (one : Run → Run → Type 0) (new : Run) : Type 0 where
  pub mid : Run
  pub before : others mid
  pub last : one mid new

-- the glyphs before a place, one after the other
unfoldable pub AreDoneBefore : Applied → ℕ → Text → Run → Type 0
AreDoneBefore a zero old new = new ≡ run old 0
AreDoneBefore a (suc place) old new = IsNextDone (AreDoneBefore a place old) (IsGlyphDone a place) new

-- all glyphs of a text, where others may apply so many lookups, and so many are left then
pub record IsPositionedBy (a : Applied) (left : ℕ) (s : State) (rest : ℕ) (t : State) : Type 0 where
  pub last : LastBase
  pub next : ℕ
  pub done : AreDoneBefore a (length s.input) (text_of s nothing_sought left) (run (text_of t last rest) next)

-- the same of a lookup of a list, at a size and variations of the font; one that is not there changes nothing
abbrev pub IsPositioned : LookupList → Option Lookup → LookupOptions → Instance → ℕ → State → ℕ → State → Type 0
IsPositioned list None options instance left s rest t = (rest ≡ left) × (t ≡ s)
IsPositioned list (Some lookup) options instance left s rest t =
    IsPositionedBy (applied list lookup options instance) left s rest t
