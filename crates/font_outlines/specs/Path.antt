-- Paths of charstrings, by points in 65,536ths of a font unit, and the boxes around them.
use Rattle.std.specs.Prelude.{ℤ, pos, neg_ℤ, ◌*◌, ◌-◌, ◌^◌, Bool, true, false, ◌||◌, ◌+ℤ◌, ◌-ℤ◌, ◌*ℤ◌, int_lt, int_le, if◌then◌else◌}
use Rattle.std.specs.Int.{int_min, int_max, int_div_euclid, saturate_signed, w32, w64}
use Rattle.rb_glyph.specs.declared.names.GlyphExtents.{GlyphExtents}
use Rattle.font_outlines.specs.declared.path.Bounds.{Bounds}
use Rattle.font_outlines.specs.declared.path.Path.{Path}
use Rattle.font_outlines.specs.declared.path.Point.{Point}

-- how far it is from a place in font units to a coordinate
abbrev pub distance : ℤ → ℤ → ℤ
distance from coordinate = coordinate -ℤ from *ℤ pos 65536

-- a distance in whole font units, where half of one is rounded up
abbrev pub rounded : ℤ → ℤ
rounded distance = int_div_euclid (distance +ℤ pos 32768) (pos 65536)

-- how far it is from a place in font units to a coordinate, in whole font units
abbrev pub whole_units : ℤ → ℤ → ℤ
whole_units from coordinate = saturate_signed w32 (rounded (distance from coordinate))

-- a side in whole font units
abbrev pub side : Bool → ℤ → ℤ
side is_there from = if is_there then whole_units (pos 0) from else pos 0

-- how far it is from a side in whole font units to the other side
abbrev pub length : Bool → ℤ → ℤ → ℤ
length is_there from to = if is_there then whole_units (whole_units (pos 0) from) to else pos 0

-- the box around a path: its left side and its top, and how far it is from there to the right side and to the bottom; an
-- empty one where it has no width or no height
abbrev pub path_box : Bounds → GlyphExtents
path_box b = record {
  x_bearing = side (int_lt b.min.x b.max.x) b.min.x;
  y_bearing = side (int_lt b.min.y b.max.y) b.max.y;
  width = length (int_lt b.min.x b.max.x) b.min.x b.max.x;
  height = length (int_lt b.min.y b.max.y) b.max.y b.min.y;
}

-- whether a box has no width or no height
abbrev pub is_empty : Bounds → Bool
is_empty b = int_le b.max.x b.min.x || int_le b.max.y b.min.y

-- the least box around a box and a point
abbrev pub including : Bounds → Point → Bounds
including b p = record {
  min = record { x = int_min b.min.x p.x; y = int_min b.min.y p.y };
  max = record { x = int_max b.max.x p.x; y = int_max b.max.y p.y };
}

-- the point that lies so far from another, and how far it is from one to another
abbrev pub moved : Point → Point → Point
moved p by = record { x = saturate_signed w64 (p.x +ℤ by.x); y = saturate_signed w64 (p.y +ℤ by.y) }

abbrev pub to : Point → Point → Point
to p other = record { x = saturate_signed w64 (other.x -ℤ p.x); y = saturate_signed w64 (other.y -ℤ p.y) }

-- the least box around two, of which an empty one counts for nothing
abbrev pub merged : Bounds → Bounds → Bounds
merged b other =
    if is_empty b then other else if is_empty other then b else including (including b other.min) other.max

-- the box that lies so far from another; an empty one stays
abbrev pub moved_box : Bounds → Point → Bounds
moved_box b by = if is_empty b then b else record { min = moved b.min by; max = moved b.max by }

-- the box around no point: from the greatest number of 32 bits down to the least
abbrev pub no_bounds : Bounds
no_bounds =
    let most = pos ((2 ^ 31 - 1) * 65536) in
    let least = neg_ℤ (pos (2 ^ 31 * 65536)) in
    record { min = record { x = most; y = most }; max = record { x = least; y = least } }

-- the path that begins at the glyph's origin
abbrev pub no_path : Path
no_path = record { point = record { x = pos 0; y = pos 0 }; is_open = false; bounds = no_bounds }

-- a path behind a move, which draws nothing
abbrev pub move_by : Path → Point → Path
move_by path by = record path { point = moved path.point by; is_open = false }

-- a path that is drawn on from its point, which its bounds then include
abbrev pub opened : Path → Path
opened path =
    if path.is_open then path else record path { is_open = true; bounds = including path.bounds path.point }

-- a path behind a line to a point
abbrev pub line_to : Path → Point → Path
line_to path end = record path { point = end; bounds = including path.bounds end }

-- a path behind a line of this distance
unfoldable pub line : Path → Point → Path
line path by = line_to (opened path) (moved (opened path).point by)

-- a path behind a curve: its bounds include the two points that control it, each as it lies from the point before
unfoldable pub curve : Path → Point → Point → Point → Path
curve path first second end = line (line (line path first) second) end
