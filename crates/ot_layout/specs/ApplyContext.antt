-- Which glyphs a match goes over.
use Rattle.std.specs.Prelude.{◌≡◌, Bool, if◌then◌else◌}
use Rattle.ot_layout.specs.declared.search.ApplyContext.{ApplyContext}
use Rattle.ot_layout.specs.declared.search.LookupContext.{LookupContext}
use Rattle.ot_layout.specs.declared.skipping_iterator.LookupOptions.{LookupOptions}
use Rattle.ot_layout.specs.declared.skipping_iterator.SkippingIterator.{SkippingIterator}
use Rattle.ot_layout.specs.SkippingIterator.{over_context, over_input}

-- the iterator over the glyphs of a match
abbrev pub input_iterator : ApplyContext → SkippingIterator
input_iterator ctx = record ctx.iterator { syllable = ctx.syllable }

-- the iterator over the glyphs around a match, within the syllable or not
abbrev pub context_iterator : ApplyContext → Bool → SkippingIterator
context_iterator ctx is_within = record ctx.context { syllable = if is_within then ctx.syllable else 0 }

-- the iterators of a lookup are those that its flag and its options ask for
abbrev pub IsMadeFor : LookupOptions → Bool → LookupContext → Type 0
IsMadeFor options is_positioning applied = record {
  iterator : applied.iterator ≡ over_input applied.lookup.now.lookup_props options is_positioning;
  context : applied.context ≡ over_context applied.lookup.now.lookup_props options is_positioning;
}
