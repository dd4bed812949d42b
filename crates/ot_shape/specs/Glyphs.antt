-- What a glyph is before the lookups.
use Rattle.std.specs.Prelude.{ℕ, List}
use Rattle.rb_glyph.specs.declared.info.hb_glyph_info_t.{hb_glyph_info_t}
use Rattle.ot_gsub.specs.Properties.{started}

-- the glyph that normalization has found, in the place of its character (HarfBuzz, `hb_ot_map_glyphs_fast`)
abbrev pub in_place : hb_glyph_info_t → hb_glyph_info_t
in_place g = record g { glyph_id = g.var1 }

-- the same with the properties that the font's table `GDEF` gives it
abbrev pub glyph_of : List ℕ → hb_glyph_info_t → hb_glyph_info_t
glyph_of gdef g = started gdef (in_place g)
