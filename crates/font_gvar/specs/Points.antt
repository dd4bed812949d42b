-- Points, and by how much they move.
use Rattle.std.specs.Prelude.{ℕ, List, false, true, ◌||◌, ◌-◌, ◌^◌, fold, length, pos, slice_index_or, if◌then◌else◌}
use Rattle.std.specs.Float.{float_zero}
use Rattle.std.specs.Float.Ieee.{Float, add, div, eq, fin, le, lt, neg, sub, mul, of_int, binary32}
use Rattle.font_variations.specs.Rounding.{greater, lesser, rounded}
use Rattle.rb_glyph.specs.declared.names.GlyphExtents.{GlyphExtents}
use Rattle.outline_tables.specs.Glyf.{empty_box}
use Rattle.font_gvar.specs.declared.outline_bounds.PointBounds.{PointBounds}
use Rattle.font_gvar.specs.declared.phantoms.Phantoms.{Phantoms}
use Rattle.font_gvar.specs.declared.points.OutlinePoint.{OutlinePoint}
use Rattle.font_gvar.specs.declared.points.Point.{Point}

-- the point that lies so far from another
abbrev pub moved : Point → Point → Point
moved p by = record { x = add binary32 p.x by.x; y = add binary32 p.y by.y }

-- the point so many times as far from the origin
abbrev pub times : Point → Float → Point
times p factor = record { x = mul binary32 p.x factor; y = mul binary32 p.y factor }

-- how far it is from another point to this one
abbrev pub from : Point → Point → Point
from p other = record { x = sub binary32 p.x other.x; y = sub binary32 p.y other.y }

-- the origin
abbrev pub origin : Point
origin = record { x = float_zero; y = float_zero }

-- the box around no point: from the greatest float of 32 bits down to the least
abbrev pub no_bounds : PointBounds
no_bounds =
    let most = fin false (2 ^ 24 - 1) (pos 104) in
    let least = fin true (2 ^ 24 - 1) (pos 104) in
    record { min = record { x = most; y = most }; max = record { x = least; y = least } }

-- the least box around a box and a point
abbrev pub including : PointBounds → Point → PointBounds
including b p = record {
  min = record { x = lesser b.min.x p.x; y = lesser b.min.y p.y };
  max = record { x = greater b.max.x p.x; y = greater b.max.y p.y };
}

-- the box around points that are moved
unfoldable pub bounds_of : Point → List OutlinePoint → PointBounds
bounds_of by points = fold (λ b p. including b (moved p.at by)) no_bounds points

-- the box in whole font units: its left side and its top are rounded, and so is how far it is from there to the other sides
abbrev pub whole_box : PointBounds → GlyphExtents
whole_box b =
    let left = rounded b.min.x in
    let top = rounded b.max.y in
    if le b.max.x b.min.x || le b.max.y b.min.y then empty_box
    else record {
      x_bearing = left;
      y_bearing = top;
      width = rounded (sub binary32 b.max.x (of_int binary32 left));
      height = rounded (sub binary32 b.min.y (of_int binary32 top));
    }

-- phantom points that are moved by one distance, or each by its own
abbrev pub all_moved : Phantoms → Point → Phantoms
all_moved p by = record { left = moved p.left by; right = moved p.right by; top = moved p.top by; bottom = moved p.bottom by }

abbrev pub each_moved : Phantoms → Phantoms → Phantoms
each_moved p by = record {
  left = moved p.left by.left;
  right = moved p.right by.right;
  top = moved p.top by.top;
  bottom = moved p.bottom by.bottom;
}

-- the phantom points, which are the last four
abbrev pub from_end : List OutlinePoint → ℕ → Point
from_end points n = (slice_index_or points (length points - n) (record { at = origin; is_end = false })).at

abbrev pub last_phantoms : List OutlinePoint → Phantoms
last_phantoms points =
    record { left = from_end points 4; right = from_end points 3; top = from_end points 2; bottom = from_end points 1 }

-- an outline is moved so that its origin in horizontal lines is at 0
abbrev pub to_origin : Phantoms → Point
to_origin p = record { x = neg p.left.x; y = float_zero }

-- the delta of a coordinate, from two others with their deltas: that of both where they are one coordinate and have one delta, evenly
-- between them, and outside that of the nearer one
abbrev pub outside : Float → Float → Float → Float → Float → Float → Float
outside target low low_delta high high_delta inside =
    if le target low then low_delta else if le high target then high_delta else inside

abbrev pub between : Float → Float → Float → Float → Float → Float
between target one one_delta other other_delta =
    add binary32 one_delta
    (mul binary32 (div binary32 (sub binary32 target one) (sub binary32 other one)) (sub binary32 other_delta one_delta))

abbrev pub inferred : Float → Float → Float → Float → Float → Float
inferred target one one_delta other other_delta =
    if eq one other then (if eq one_delta other_delta then one_delta else float_zero)
    else if lt one other
    then outside target one one_delta other other_delta (between target one one_delta other other_delta)
    else outside target other other_delta one one_delta (between target one one_delta other other_delta)
