-- The glyphs of a text before it is shaped.
use Rattle.std.specs.Prelude.{ℕ, ◌+◌, ◌%◌, List, [], ◌∷◌, length, encode_utf8}
use Rattle.rb_glyph.specs.declared.info.hb_glyph_info_t.{hb_glyph_info_t}

-- the glyph of a character in a cluster, with all else 0
abbrev pub character : ℕ → ℕ → hb_glyph_info_t
character c cluster = record { glyph_id = c; mask = 0; cluster = cluster; var1 = 0; var2 = 0 }

-- a glyph for each character, whose cluster is the place of its first byte modulo 2^32; the first begins at this byte
abbrev pub glyphs_at : ℕ → List ℕ → List hb_glyph_info_t
glyphs_at offset [] = []
glyphs_at offset (c ∷ cs) = character c (offset % 4294967296) ∷ glyphs_at (offset + length (encode_utf8 c)) cs
