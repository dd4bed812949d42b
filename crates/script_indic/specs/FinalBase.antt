-- What the base of a syllable is found by after the basic features (HarfBuzz, `final_reordering_syllable`).
use Rattle.std.specs.Prelude.{ℕ, ◌+◌, ◌==◌, ◌&&◌, Bool, not, List, Option, bit_and, drop}
use Rattle.std.specs.List.{position_from}
use Rattle.rb_glyph.specs.declared.info.hb_glyph_info_t.{hb_glyph_info_t}
use Rattle.script_syllables.specs.Item as items

-- one of several glyphs that a lookup made of a ligature
abbrev pub is_of_parted_ligature : hb_glyph_info_t → Bool
is_of_parted_ligature g = items.is_ligated g && items.is_multiplied g

-- the item has one of the features of a mask
abbrev pub has_mask : ℕ → hb_glyph_info_t → Bool
has_mask mask g = not (bit_and g.mask mask == 0)

-- the first such item behind a place
abbrev pub masked_behind : ℕ → ℕ → List hb_glyph_info_t → Option ℕ
masked_behind mask place l = position_from (has_mask mask) (place + 1) (drop (place + 1) l)
