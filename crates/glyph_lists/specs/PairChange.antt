-- What a merge of two glyphs changes.
use Rattle.std.specs.Prelude.{ℕ, ◌+◌, List, slice_index_or, slice_set}
use Rattle.rb_glyph.specs.declared.info.hb_glyph_info_t.{hb_glyph_info_t}
use Rattle.glyph_lists.specs.Clusters.{with_cluster, run_merge, zero_glyph}
use Rattle.glyph_lists.specs.declared.merge_range.PairChange.{PairChange}
use Rattle.glyph_lists.specs.declared.merge_range.PairChange.TheVariants.{Nothing, Second, First, Run}

-- the list with the glyph at place k in cluster c
abbrev pub moved_to : ℕ → ℕ → List hb_glyph_info_t → List hb_glyph_info_t
moved_to c k l = slice_set l k (with_cluster c 0 (slice_index_or l k zero_glyph))

-- the list, of which the two glyphs from place p on are merged
abbrev pub pair_changed : PairChange → ℕ → ℕ → List hb_glyph_info_t → List hb_glyph_info_t
pair_changed Nothing p floor l = l
pair_changed (Second cluster) p floor l = moved_to cluster (p + 1) l
pair_changed (First cluster) p floor l = moved_to cluster p l
pair_changed Run p floor l = run_merge l p (p + 2) floor
