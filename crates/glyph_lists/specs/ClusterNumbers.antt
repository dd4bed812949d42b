-- Clusters that are numbered anew.
use Rattle.std.specs.Prelude.{ℕ, ◌+◌, ◌%◌, List, [], ◌∷◌}
use Rattle.rb_glyph.specs.declared.info.hb_glyph_info_t.{hb_glyph_info_t}

-- each glyph is a cluster of its own, numbered by its place modulo 2^32, the first by this number; all else stays
abbrev pub reset_clusters : ℕ → List hb_glyph_info_t → List hb_glyph_info_t
reset_clusters first [] = []
reset_clusters first (g ∷ gs) = record g { cluster = first % 4294967296 } ∷ reset_clusters (first + 1) gs
