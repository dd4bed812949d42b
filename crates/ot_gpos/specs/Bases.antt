-- Which glyphs count where what a mark is attached to is looked for.
use Rattle.std.specs.Prelude.{ℕ, ◌&&◌, List, Bool, false, not, nat_lt, length, if◌then◌else◌, slice_index_or}
use Rattle.rb_glyph.specs.declared.info.hb_glyph_info_t.{hb_glyph_info_t}
use Rattle.rb_glyph.specs.Fields.{field}
use Rattle.ot_layout.specs.SkippingIterator.{is_within, may_ignore}
use Rattle.ot_lookups.specs.LookupProps.{passes_over, props, zero_glyph}
use Rattle.ot_layout.specs.declared.skipping_iterator.SkippingIterator.{SkippingIterator}

-- whether a glyph counts in a walk, whatever is asked for: it is not passed over, is not invisible, and has the features' bits
unfoldable pub counts : SkippingIterator → hb_glyph_info_t → Bool
counts w g = not (passes_over w.lookup_props g) && not (may_ignore w (field g.var2 0 16) (props g)) && is_within w g

-- whether the glyph at a place counts
abbrev pub counts_at : SkippingIterator → List hb_glyph_info_t → ℕ → Bool
counts_at w gs k = if nat_lt k (length gs) then counts w (slice_index_or gs k zero_glyph) else false
