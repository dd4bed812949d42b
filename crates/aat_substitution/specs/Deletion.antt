-- Glyphs that subtables deleted.
use Rattle.std.specs.Prelude.{Bool, nat_eq}
use Rattle.rb_glyph.specs.declared.info.hb_glyph_info_t.{hb_glyph_info_t}

-- a deleted glyph has the last number
abbrev pub is_deleted : hb_glyph_info_t → Bool
is_deleted glyph = nat_eq glyph.glyph_id 65535
