-- Clusters that are read one at a time, and counted.
use Rattle.std.specs.Prelude.{ℕ, ◌≡◌, ◌^◌, ◌<◌, ◌++◌, List}
use Rattle.rb_glyph.specs.declared.info.hb_glyph_info_t.{hb_glyph_info_t}
use Rattle.glyph_lists.specs.Clusters.{clusters}

-- two lists of glyphs, and how many of their clusters were read
pub record Reads : Type 0 where
  pub out : List hb_glyph_info_t
  pub input : List hb_glyph_info_t
  pub reads : ℕ

-- the clusters of both lists, one after the other
abbrev pub both_clusters : Reads → List ℕ
both_clusters r = clusters (r.out ++ r.input)

-- both stand over the same two lists
abbrev pub SameLists : Reads → Reads → Type 0
SameLists old new = (new.out ≡ old.out) × (new.input ≡ old.input)

-- so few clusters were read that one more walk is counted: a walk reads fewer than 2 ^ 65, and a merge is three walks
abbrev pub FewReads : Reads → Type 0
FewReads r = r.reads < 2 ^ 67
