-- The byte of an item that the shapers of scripts keep what they like in: the highest of its second variable.
use Rattle.std.specs.Prelude.{ℕ, ◌+◌, ◌*◌, ◌/◌, ◌%◌}
use Rattle.rb_glyph.specs.declared.info.hb_glyph_info_t.{hb_glyph_info_t}

-- the byte
abbrev pub shaper_byte : hb_glyph_info_t → ℕ
shaper_byte g = g.var2 / 0x1000000

-- the item with another byte there
abbrev pub with_shaper_byte : ℕ → hb_glyph_info_t → hb_glyph_info_t
with_shaper_byte byte g = record g { var2 = g.var2 % 0x1000000 + byte * 0x1000000 }
