-- What a subtable of a lookup does at a glyph, if it is no context.
use Rattle.std.specs.Prelude.{ℕ, Bool, true, not, Option, is_some}
use Rattle.shaping_buffer.specs.State.{State}
use Rattle.ot_layout.specs.SkippingIterator.{over_input}
use Rattle.ot_lookups.specs.SubtableKinds.{as_context}
use Rattle.ot_lookups.specs.declared.lookup_list.Lookup.{Lookup}
use Rattle.ot_lookups.specs.declared.lookup_list.LookupList.{LookupList}
use Rattle.ot_layout.specs.declared.skipping_iterator.LookupOptions.{LookupOptions}
use Rattle.ot_lookups.specs.declared.subtable.Subtable.{Subtable}
use Rattle.ot_gpos_tables.specs.declared.instance.Instance.{Instance}
use Rattle.ot_gpos.specs.Subtables.{bases_at, simple_at, simple_next}
use Rattle.ot_gpos.specs.Visit.{Visit}
use Rattle.ot_gpos.specs.declared.marks.LastBase.{LastBase}

-- a lookup of a list as it is applied: how, and at which size and variations of the font
pub record Applied : Type 0 where
  pub list : LookupList
  pub lookup : Lookup
  pub options : LookupOptions
  pub instance : Instance

abbrev pub applied : LookupList → Lookup → LookupOptions → Instance → Applied
applied list lookup options instance = record { list = list; lookup = lookup; options = options; instance = instance }

-- a text on its way: the buffer, what is remembered of bases, and how many more lookups others may apply
pub record Text : Type 0 where
  pub buffer : State
  pub last : LastBase
  pub left : ℕ

abbrev pub text_of : State → LastBase → ℕ → Text
text_of buffer last left = record { buffer = buffer; last = last; left = left }

-- what comes of a subtable or a lookup at a glyph: the text, and where the lookup goes on, if it did anything
pub record Outcome : Type 0 where
  pub text : Text
  pub next : Option ℕ

abbrev pub outcome : Text → Option ℕ → Outcome
outcome text next = record { text = text; next = next }

-- whether a subtable is no context, chained or not
abbrev pub is_simple : Subtable → Bool
is_simple subtable = not (is_some (as_context subtable.kind))

-- a subtable at the glyph of a place, with its coverage index
abbrev pub visit_by : Applied → ℕ → Subtable → ℕ → Visit
visit_by a place subtable index = record {
  lookup = a.lookup;
  subtable = subtable;
  iterator = over_input a.lookup.lookup_props a.options true;
  instance = a.instance;
  place = place;
  index = index;
}

-- what comes of one that is no context, by its kind
abbrev pub outcome_at : Visit → Text → Outcome
outcome_at visit old =
    let kind = visit.subtable.kind in
    outcome
    (record old {
      buffer = simple_at kind visit old.last old.buffer;
      last = bases_at kind visit old.buffer.input old.last;
    })
    (simple_next kind visit old.last old.buffer)
