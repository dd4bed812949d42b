-- Which glyphs a lookup passes over by its flag (OpenType specification, "OpenType Layout Common Table Formats", "Lookup table").
use Rattle.std.specs.Prelude.{ℕ, ◌==◌, ◌&&◌, ◌||◌, Bool, not, List, is_some, slice_index_or, bit_and, if◌then◌else◌}
use Rattle.rb_glyph.specs.declared.info.hb_glyph_info_t.{hb_glyph_info_t}
use Rattle.rb_glyph.specs.Fields.{field}
use Rattle.glyph_digests.specs.Covered.{covered_index}
use Rattle.ot_lookups.specs.declared.lookup_props.LookupProps.{LookupProps}

-- the glyph whose fields are all 0
abbrev pub zero_glyph : hb_glyph_info_t
zero_glyph = record { glyph_id = 0; mask = 0; cluster = 0; var1 = 0; var2 = 0 }

-- the glyph at a place
abbrev pub glyph_at : List hb_glyph_info_t → ℕ → hb_glyph_info_t
glyph_at gs i = slice_index_or gs i zero_glyph

-- whether two words have a bit in common
abbrev pub share : ℕ → ℕ → Bool
share a b = not (bit_and a b == 0)

-- the properties of a glyph: 2 for a base, 4 for a ligature, 8 for a mark, 16 for one that was substituted, and the
-- attachment class of a mark from bit 8 on
abbrev pub props : hb_glyph_info_t → ℕ
props g = field g.var1 0 16

-- whether the mark is passed over: it is not in the set that the flag asks for (bit 4), or else it is of another
-- attachment class than the flag names (bits 8 to 15)
unfoldable pub passes_over_mark : LookupProps → ℕ → ℕ → Bool
passes_over_mark f props glyph =
    if share f.flags 16 then not (is_some (covered_index f.marks.table.now glyph))
    else share f.flags 65280 && not (bit_and f.flags 65280 == bit_and props 65280)

-- whether a lookup passes over a glyph: its flag names the glyph's class (bits 1 to 3), or it is a mark that is passed over
unfoldable pub passes_over : LookupProps → hb_glyph_info_t → Bool
passes_over f g =
    share (bit_and (props g) f.flags) 14 || (share (props g) 8 && passes_over_mark f (props g) g.glyph_id)
