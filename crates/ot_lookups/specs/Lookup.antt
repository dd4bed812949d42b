-- The glyphs at which a lookup may do something.
use Rattle.std.specs.Prelude.{ℕ, ◌≡◌, ◌&&◌, Bool, not, true, false}
use Rattle.rb_glyph.specs.declared.info.hb_glyph_info_t.{hb_glyph_info_t}
use Rattle.glyph_digests.specs.Digest.{may_have}
use Rattle.glyph_digests.specs.FirstGlyphs.{may_have_first}
use Rattle.ot_lookups.specs.LookupProps.{passes_over, share}
use Rattle.glyph_digests.specs.declared.digest.Digest.{Digest}
use Rattle.ot_lookups.specs.declared.lookup_list.Lookup.{Lookup}

-- whether a lookup may do something at a glyph: its digest may have it, the glyph has one of the feature's bits, the lookup
-- does not pass over it, and where it is one of the first 256 glyphs, a subtable is for it
abbrev pub is_for : Lookup → ℕ → hb_glyph_info_t → Bool
is_for lookup mask g =
    may_have lookup.digest g.glyph_id && share g.mask mask && not (passes_over lookup.lookup_props g)
    && may_have_first lookup.firsts g.glyph_id

-- a lookup is for no glyph that a digest may have
abbrev pub IsForNone : Lookup → Digest → Type 0
IsForNone lookup d =
    (g : hb_glyph_info_t) → may_have d g.glyph_id ≡ true → (mask : ℕ) → is_for lookup mask g ≡ false
