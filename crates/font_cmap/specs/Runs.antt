-- Codes that follow one another and have their glyphs of one row.
use Rattle.std.specs.Prelude.{ℕ, List, Option, ◌≡◌, ◌≤◌, option_and_then}
use Rattle.font_cmap.specs.Subtables.{glyph_in_segment, segments_glyph, glyph_in_group, groups_glyph}
use Rattle.font_cmap.specs.declared.segments.Segment.{Segment}
use Rattle.font_cmap.specs.declared.segments.SegmentRun.{SegmentRun}
use Rattle.font_cmap.specs.declared.groups.Group.{Group}
use Rattle.font_cmap.specs.declared.groups.GroupRun.{GroupRun}

-- the glyph of a code in a segment, if there is one
abbrev pub glyph_of_segment : List ℕ → ℕ → Option Segment → Option ℕ
glyph_of_segment table code segment =
    option_and_then (λ found. glyph_in_segment table code found.row found.start found.delta found.range_offset) segment

-- the codes from one on, up to the last one of the run, have their glyphs of its segment
abbrev pub IsSegmentRun : List ℕ → SegmentRun → ℕ → Type 0
IsSegmentRun table run from =
    (code : ℕ) → from ≤ code → code ≤ run.last → segments_glyph table code ≡ glyph_of_segment table code run.segment

-- the glyph of a code in a group, if there is one
abbrev pub glyph_of_group : ℕ → ℕ → Option Group → Option ℕ
glyph_of_group format code group = option_and_then (λ found. glyph_in_group format code found.start found.glyph) group

-- the codes from one on, up to the last one of the run, have their glyphs of its group
abbrev pub IsGroupRun : List ℕ → GroupRun → ℕ → Type 0
IsGroupRun table run from =
    (format code : ℕ) → from ≤ code → code ≤ run.last → groups_glyph table format code ≡ glyph_of_group format code run.group
