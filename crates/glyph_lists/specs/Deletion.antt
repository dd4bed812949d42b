-- Deletion: the current glyph goes, and its cluster is kept where it is lower than its neighbour's.
use Rattle.std.specs.Prelude.{ℕ, ◌-◌, ◌==◌, ◌||◌, ◌&&◌, Bool, not, true, false, List, [], ◌∷◌, length, drop, nat_lt}
use Rattle.std.specs.Prelude.{slice_index, if◌then◌else◌}
use Rattle.rb_glyph.specs.declared.info.hb_glyph_info_t.{hb_glyph_info_t}
use Rattle.glyph_lists.specs.Parts.{on_part, map_range, is_short}
use Rattle.glyph_lists.specs.Clusters.{clusters, with_cluster, run_start, run_merge}
use Rattle.glyph_lists.specs.Marks.{mark}
use Rattle.glyph_lists.specs.declared.glyph_flags.TheConstants.{BREAK_BITS}

-- what was put out, and what is left to read
pub record OutAndRest : Type 0 where
  pub out : List hb_glyph_info_t
  pub rest : List hb_glyph_info_t

-- The merge of places p to q: the run merge, or in any order of clusters the mark of the range with both break flags.
unfoldable pub merge_or_mark : Bool → List hb_glyph_info_t → ℕ → ℕ → ℕ → List hb_glyph_info_t
merge_or_mark any_order l p q floor =
    if any_order then (if is_short p q then l else on_part (mark BREAK_BITS) l p q)
    else run_merge l p q floor

-- the list has a glyph
unfoldable pub is_not_empty : List hb_glyph_info_t → Bool
is_not_empty [] = false
is_not_empty (g ∷ l) = true

-- the list begins with cluster c
unfoldable pub begins_with : ℕ → List hb_glyph_info_t → Bool
begins_with c [] = false
begins_with c (g ∷ l) = g.cluster == c

-- the cluster of the last glyph
unfoldable pub last_cluster : List hb_glyph_info_t → ℕ
last_cluster l = slice_index (clusters l) (length l - 1)

-- the trailing run of the list takes cluster c, with the defined flags of the mask w
unfoldable pub with_trailing_run : ℕ → ℕ → List hb_glyph_info_t → List hb_glyph_info_t
with_trailing_run c w l =
    map_range (with_cluster c w) l (run_start (clusters l) (last_cluster l) 0 (length l)) (length l)

-- a neighbour of the deleted glyph has cluster c: the next glyph, or the last that was put out
abbrev pub has_neighbour_in : ℕ → List hb_glyph_info_t → List hb_glyph_info_t → Bool
has_neighbour_in c out rest = begins_with c rest || (is_not_empty out && (last_cluster out == c))

-- Where no neighbour has the deleted glyph's cluster, the trailing run of `out` takes it, if it is lower,
unfoldable pub lowers_run : List hb_glyph_info_t → hb_glyph_info_t → List hb_glyph_info_t → Bool
lowers_run out x rest =
    not (has_neighbour_in x.cluster out rest) && (is_not_empty out && nat_lt x.cluster (last_cluster out))

-- or with nothing put out it is merged with the next glyph.
unfoldable pub merges_next : List hb_glyph_info_t → hb_glyph_info_t → List hb_glyph_info_t → Bool
merges_next out x rest =
    not (has_neighbour_in x.cluster out rest) && (not (is_not_empty out) && is_not_empty rest)

-- Deletion: the current glyph x leaves the input.
unfoldable pub deletion : Bool → List hb_glyph_info_t → hb_glyph_info_t → List hb_glyph_info_t → OutAndRest
deletion any_order out x rest =
    if lowers_run out x rest then record { out = with_trailing_run x.cluster x.mask out; rest = rest }
    else (if merges_next out x rest then record { out = out; rest = drop 1 (merge_or_mark any_order (x ∷ rest) 0 2 0) }
    else record { out = out; rest = rest })
