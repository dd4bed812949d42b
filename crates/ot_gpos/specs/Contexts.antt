-- A context at its glyph: the first rule that matches there applies its lookups, in order, each at the glyph of the match that its record
-- names (OpenType, "Lookup type 7: contextual positioning", "Lookup type 8: chained contexts positioning", "Sequence lookup record";
-- HarfBuzz, `apply_lookup`).
use Rattle.std.specs.Prelude.{◌≡◌, ℕ, zero, suc, ◌+◌, ◌-◌, ◌^◌, true, List, drop, take, min, slice_get, Option, None, Some}
use Rattle.std.specs.Prelude.{option_and_then, option_map}
use Rattle.rb_glyph.specs.declared.info.hb_glyph_info_t.{hb_glyph_info_t}
use Rattle.shaping_buffer.specs.State.{State}
use Rattle.ot_lookups.specs.declared.lookup_list.Lookup.{Lookup}
use Rattle.ot_lookups.specs.declared.lookup_list.LookupList.{LookupList}
use Rattle.ot_contexts.specs.Context.{context_rule, record_at}
use Rattle.ot_contexts.specs.Pattern.{IsFitBy, Pattern}
use Rattle.ot_layout.specs.SkippingIterator.{over_context}
use Rattle.ot_contexts.specs.declared.context.Fit.{Fit}
use Rattle.ot_contexts.specs.declared.context.SequenceLookupRecord.{SequenceLookupRecord}
use Rattle.ot_layout.specs.declared.search.ApplyContext.{ApplyContext}
use Rattle.ot_layout.specs.declared.search.Reach.{Reach}
use Rattle.ot_layout.specs.declared.skipping_iterator.SkippingIterator.{SkippingIterator}
use Rattle.ot_attachments.specs.Flags.{break_marked, concat_marked}
use Rattle.ot_gpos.specs.Lookups.{Applied, Outcome, Text, outcome}
use Rattle.ot_gpos.specs.Visit.{Visit}

-- ---- the rule

-- the glyphs before that of a visit and from it on, and the walks over the glyphs of a match and over those around it
pub record IsAround (visit : Visit) (walk : SkippingIterator) (gs : List hb_glyph_info_t) (ctx : ApplyContext) : Type 0 where
  pub out : ctx.out.now ≡ take visit.place gs
  pub input : ctx.input.now ≡ drop visit.place gs
  pub iterator : ctx.iterator ≡ visit.iterator
  pub context : ctx.context ≡ walk
  pub syllable : ctx.syllable ≡ 0
  pub level : ctx.is_level ≡ true

-- the rule of a context that is taken at its glyph
abbrev pub rule_at : LookupList → Visit → ApplyContext → Option Pattern
rule_at list visit ctx =
    context_rule list.coverages.items visit.subtable visit.index ctx

-- a rule, if there is one, is found to fit, with the glyphs of its match at these places from the glyph on
abbrev pub IsFound : ApplyContext → Option Pattern → List ℕ → Option Fit → Type 0
IsFound ctx rule places None = rule ≡ None
IsFound ctx rule places (Some fit) = IsFitBy ctx rule places fit

pub record IsDecided (list : LookupList) (visit : Visit) (walk : SkippingIterator) (gs : List hb_glyph_info_t) (places : List ℕ) (found : Option Fit) : Type 0 where
  pub ctx : ApplyContext
  pub around : IsAround visit walk gs ctx
  pub fits : IsFound ctx (rule_at list visit ctx) places found

-- ---- its records

-- the place of a glyph so many behind one; none is more than 64 bits hold
abbrev pub ahead : ℕ → ℕ → ℕ
ahead place count = min (place + count) (2 ^ 64 - 1)

abbrev pub target : Lookup → ℕ → Lookup × ℕ
target lookup place = (lookup, place)

-- the lookup of a record, and the place of the glyph that it names, if there are such
abbrev pub named_by : List Lookup → ℕ → List ℕ → SequenceLookupRecord → Option (Lookup × ℕ)
named_by lookups place places r =
    option_and_then (λ at. option_map (λ lookup. target lookup (ahead place at)) (slice_get lookups r.lookup))
    (slice_get places r.sequence_index)

-- the same of the record of this number
abbrev pub named : List Lookup → List ℕ → ℕ → List ℕ → ℕ → Option (Lookup × ℕ)
named lookups records place places k = option_and_then (named_by lookups place places) (record_at records k)

-- what becomes of a text by a lookup at a place, where another one applies it
abbrev pub Applies : Type 1
Applies = Lookup → ℕ → Text → Text → Type 0

-- and by a record: nothing, where it names no lookup or no glyph
abbrev pub IsRecordDone : Applies → Option (Lookup × ℕ) → Text → Text → Type 0
IsRecordDone applies None old new = new ≡ old
IsRecordDone applies (Some at) old new = applies at.0 at.1 old new

abbrev pub record_done : Applies → List Lookup → List ℕ → ℕ → List ℕ → ℕ → Text → Text → Type 0
record_done applies lookups records place places k = IsRecordDone applies (named lookups records place places k)

-- one comes after others
pub record IsDoneAfter (others one : Text → Text → Type 0) (old new : Text) : Type 0 where
  pub mid : Text
  pub before : others old mid
  pub last : one mid new

-- the first so many, in order
unfoldable pub AreDone : (ℕ → Text → Text → Type 0) → ℕ → Text → Text → Type 0
AreDone done zero old new = new ≡ old
AreDone done (suc k) old new = IsDoneAfter (AreDone done k) (done k) old new

-- ---- what comes of it

-- glyphs that rules have looked at which do not fit: with other glyphs beside the text, one of them might
abbrev pub looked_at : ℕ → Reach → State → State
looked_at place reach s = concat_marked reach.from (ahead place reach.to) s

-- The rule fits: what it looked at may not be parted, its records are done, and the lookup goes on behind the match. Glyphs behind that,
-- which other rules would have looked at, are unsafe to concatenate.
pub record IsFitDone (applies : Applies) (lookups : List Lookup) (place : ℕ) (places : List ℕ) (fit : Fit) (old : Text) (o : Outcome) : Type 0 where
  pub mid : Text
  pub records : AreDone (record_done applies lookups fit.records.now place places) fit.record_count
      (record old { buffer = break_marked fit.from (ahead place fit.to) old.buffer }) mid
  pub comes : o
      ≡ outcome (record mid { buffer = concat_marked (ahead place fit.end) (ahead place fit.beyond) mid.buffer })
      (Some (ahead place fit.end))

abbrev pub IsMade : Applies → List Lookup → ℕ → List ℕ → Option Fit → Text → Outcome → Type 0
IsMade applies lookups place places None old o = o ≡ outcome old None
IsMade applies lookups place places (Some fit) old o = IsFitDone applies lookups place places fit old o

-- a context of a lookup at a glyph that it covers
pub record IsContextDone (applies : Applies) (a : Applied) (visit : Visit) (old : Text) (o : Outcome) : Type 0 where
  pub found : Option Fit
  pub places : List ℕ
  pub reach : Reach
  pub decided : IsDecided a.list visit (over_context a.lookup.lookup_props a.options true) old.buffer.input places found
  pub made : IsMade applies a.list.lookups.items visit.place places found
      (record old { buffer = looked_at visit.place reach old.buffer }) o
