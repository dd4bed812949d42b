-- What a call makes of the glyph flags of a range of both sides: bits for all its glyphs, or a scan.
use Rattle.std.specs.Prelude.{ℕ, ◌-◌, List}
use Rattle.rb_glyph.specs.declared.info.hb_glyph_info_t.{hb_glyph_info_t}
use Rattle.glyph_lists.specs.declared.range_change.RangeChange.{RangeChange}
use Rattle.glyph_lists.specs.declared.range_change.RangeChange.TheVariants.{Mark, Scan}
use Rattle.glyph_lists.specs.ClusterOrder.{is_any}
use Rattle.glyph_lists.specs.Parts.{on_part, map_range}
use Rattle.glyph_lists.specs.Marks.{with_glyph_flags}
use Rattle.glyph_lists.specs.Scans.{two_part_scan}

-- the list with places p to q changed, its first k glyphs being the out side
abbrev pub changed : RangeChange → ℕ → List hb_glyph_info_t → ℕ → ℕ → List hb_glyph_info_t
changed (Mark bits) k l p q = map_range (with_glyph_flags bits) l p q
changed (Scan bits order) k l p q = on_part (two_part_scan (is_any order) bits (k - p)) l p q
