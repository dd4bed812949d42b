-- Scans: in any order of clusters a scan reads all clusters of its range, and else the ends of its parts alone.
use Rattle.std.specs.Prelude.{ℕ, ◌++◌, Bool, List, take, drop, if◌then◌else◌}
use Rattle.rb_glyph.specs.declared.info.hb_glyph_info_t.{hb_glyph_info_t}
use Rattle.glyph_lists.specs.Clusters.{clusters, least}
use Rattle.glyph_lists.specs.Marks.{mark, mark_others, mark_part, end_mark, ends_least}

-- a scan of one part
unfoldable pub scan_of : Bool → ℕ → List hb_glyph_info_t → List hb_glyph_info_t
scan_of any_order bits r = if any_order then mark bits r else end_mark bits r

-- the least cluster that a scan of two parts goes by
abbrev pub scan_least : Bool → List hb_glyph_info_t → List hb_glyph_info_t → ℕ
scan_least any_order r s = if any_order then least (clusters (r ++ s)) else ends_least r s

-- one part of a scan of two, m being that cluster
abbrev pub part_scan : Bool → ℕ → ℕ → List hb_glyph_info_t → List hb_glyph_info_t
part_scan any_order bits m r = if any_order then mark_others bits m r else mark_part bits m r

-- a scan of two parts, the first k glyphs and those after them
unfoldable pub two_part_scan : Bool → ℕ → ℕ → List hb_glyph_info_t → List hb_glyph_info_t
two_part_scan any_order bits k r =
    let m = scan_least any_order (take k r) (drop k r) in
    part_scan any_order bits m (take k r) ++ part_scan any_order bits m (drop k r)
