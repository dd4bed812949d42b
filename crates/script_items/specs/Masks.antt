-- The masks of the features that a shaper gives each item by itself.
use Rattle.std.specs.Prelude.{ℕ, List, nat_lt, slice_index, bit_or, if◌then◌else◌}
use Rattle.rb_glyph.specs.declared.info.hb_glyph_info_t.{hb_glyph_info_t}
use Rattle.script_items.specs.Item.{shaper_byte}

-- the item with the mask of the number that it keeps; a number past the list has none
abbrev pub with_form_mask : List ℕ → hb_glyph_info_t → hb_glyph_info_t
with_form_mask masks g =
    if nat_lt (shaper_byte g) 8 then record g { mask = bit_or g.mask (slice_index masks (shaper_byte g)) } else g
