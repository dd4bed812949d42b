-- What a lookup of forms does to a glyph of a joined syllable.
use Rattle.std.specs.Prelude.{ℕ, ◌-◌, ◌^◌, ◌==◌, ◌&&◌, ◌||◌, Bool, not, nat_le, bit_and, if◌then◌else◌}
use Rattle.rb_glyph.specs.declared.info.hb_glyph_info_t.{hb_glyph_info_t}
use Rattle.ot_lookups.specs.declared.lookup_list.Lookup.{Lookup}
use Rattle.ot_lookups.specs.Lookup.{is_for}
use Rattle.ot_lookups.specs.LookupProps.{passes_over}

-- the bits of the lookup's features are in only one of two masks
abbrev pub is_in_one : ℕ → ℕ → ℕ → Bool
is_in_one bits one other = if bit_and one bits == 0 then not (bit_and other bits == 0) else bit_and other bits == 0

-- the glyph may be another than the first of those that the lookup takes together: it has ligatures (4), contexts (5, 6) or extensions (7)
abbrev pub may_follow : Lookup → hb_glyph_info_t → Bool
may_follow lookup g =
    nat_le 4 lookup.lookup_type && nat_le lookup.lookup_type 7 && not (passes_over lookup.lookup_props g)

-- the lookup is for the glyph, and with only one of the masks: its own, and another
abbrev pub is_parted : Lookup → ℕ → hb_glyph_info_t → ℕ → Bool
is_parted lookup bits g other =
    is_in_one bits g.mask other && (is_for lookup (2 ^ 32 - 1) g || may_follow lookup g)
