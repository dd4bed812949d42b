-- Phantom points of a glyph where nothing varies: the origin in horizontal lines, the advance from there, and the same in vertical
-- lines (OpenType specification, "Phantom Points").
use Rattle.std.specs.Prelude.{ℕ, ℤ, pos, List, ◌+ℤ◌, ◌-ℤ◌, nat_eq, unwrap_or, if◌then◌else◌}
use Rattle.std.specs.Option.{option_map_or}
use Rattle.std.specs.Float.{float_zero}
use Rattle.font_tables.specs.Bytes.{signed_16}
use Rattle.font_tables.specs.Metrics.{advance, side_bearing}
use Rattle.font_tables.specs.declared.metrics.Metrics.{Metrics}
use Rattle.font_variations.specs.Regions.{float}
use Rattle.font_gvar.specs.Points.{each_moved, moved}
use Rattle.font_gvar.specs.declared.phantoms.Phantoms.{Phantoms}
use Rattle.font_gvar.specs.declared.phantoms.VariedPhantoms.{VariedPhantoms}
use Rattle.font_gvar.specs.declared.points.Point.{Point}
use Rattle.font_gvar.specs.declared.sources.GlyphSources.{GlyphSources}

-- the left side of an outline's box, and its top
abbrev pub x_min : List ℕ → ℤ
x_min outline = unwrap_or (signed_16 outline 2) (pos 0)

abbrev pub y_max : List ℕ → ℤ
y_max outline = unwrap_or (signed_16 outline 8) (pos 0)

-- where the origin lies in horizontal lines: to the left of the box by the side bearing, and at 0 where the font does not say it
abbrev pub left_edge : Metrics → ℕ → List ℕ → ℤ
left_edge metrics glyph outline = option_map_or (λ bearing. x_min outline -ℤ bearing) (side_bearing metrics glyph) (pos 0)

-- where it lies in vertical lines: above the box by the side bearing
abbrev pub top_edge : Metrics → ℕ → List ℕ → ℤ
top_edge metrics glyph outline = y_max outline +ℤ unwrap_or (side_bearing metrics glyph) (pos 0)

-- points on the two axes
abbrev pub across : ℤ → Point
across n = record { x = float n; y = float_zero }

abbrev pub upwards : ℤ → Point
upwards n = record { x = float_zero; y = float n }

-- the four points
unfoldable pub phantoms : GlyphSources → ℕ → List ℕ → Phantoms
phantoms s glyph outline =
    let left = left_edge s.horizontal glyph outline in
    let top = top_edge s.vertical glyph outline in
    record {
      left = across left;
      right = across (left +ℤ pos (advance s.horizontal glyph));
      top = upwards top;
      bottom = upwards (top -ℤ pos (advance s.vertical glyph));
    }

-- the points, of which the one of a number is moved
abbrev pub with_moved : Phantoms → ℕ → Point → Phantoms
with_moved p number by =
    if nat_eq number 0 then record p { left = moved p.left by }
    else if nat_eq number 1 then record p { right = moved p.right by }
    else if nat_eq number 2 then record p { top = moved p.top by }
    else if nat_eq number 3 then record p { bottom = moved p.bottom by } else p

-- the points with all that they are still to be moved by
abbrev pub finished : VariedPhantoms → Phantoms
finished v = if v.is_pending then each_moved v.phantoms v.deltas else v.phantoms
