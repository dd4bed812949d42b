-- Glyphs, apart from what merges and marks change.
use Rattle.std.specs.Prelude.{List, map}
use Rattle.rb_glyph.specs.declared.info.hb_glyph_info_t.{hb_glyph_info_t}

-- the glyph without its cluster and its mask
abbrev pub core : hb_glyph_info_t → hb_glyph_info_t
core g = record g { mask = 0; cluster = 0 }

abbrev pub cores : List hb_glyph_info_t → List hb_glyph_info_t
cores l = map core l
