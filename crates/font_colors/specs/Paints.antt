-- Paints and layers of glyphs that are drawn in colours (OpenType specification, "COLR - Color Table", "Paint tables").
use Rattle.std.specs.Prelude.{ℕ, ℤ, pos, List, [], Bool, ◌||◌, Option, Some, None, ◌+◌, ◌-◌, ◌*◌, ◌/◌, ◌%◌, ◌+ℤ◌, int_lt, nat_eq, nat_lt, min, length, drop, if◌then◌else◌}
use Rattle.std.specs.Prelude.{option_map, option_and_then, unwrap_or}
use Rattle.std.specs.Int.{cast_signed, saturate_signed, w32}
use Rattle.std.specs.Ordering.{int_eq}
use Rattle.std.specs.declared.cmp.Ordering.{Ordering}
use Rattle.std.specs.Float.{float_to_signed, float_zero, float_one, minus_one, two_to}
use Rattle.std.specs.Float.Ieee.{Float, add, div, lt, mul, neg, of_int, sub, binary32}
use Rattle.font_tables.specs.Bisection.{beside_key, row_with}
use Rattle.font_tables.specs.Bytes.{byte_at, number_16, number_24, number_32, signed_16}
use Rattle.font_tables.specs.declared.scale.Scale.{Scale}
use Rattle.font_variations.specs.IndexMap.{index_of}
use Rattle.font_variations.specs.VariationStore.{delta}
use Rattle.outline_tables.specs.Glyf.{empty_box}
use Rattle.font_gvar.specs.declared.outline_bounds.PointBounds.{PointBounds}
use Rattle.font_outlines.specs.declared.path.Bounds.{Bounds as PathBounds}
use Rattle.rb_glyph.specs.declared.names.GlyphExtents.{GlyphExtents}
use Rattle.font_colors.specs.Bounds.{bounds_of, intersected, united}
use Rattle.font_colors.specs.Colr.{delta_set, part_at}
use Rattle.font_colors.specs.Extents.{box_at, is_void, joined}
use Rattle.font_colors.specs.Transform.{after, rotated, scaled, scaling, skewed, transformed, translated}
use Rattle.font_colors.specs.declared.base_glyphs.Layers.{Layers}
use Rattle.font_colors.specs.declared.bounds.Bounds.{Bounds}
use Rattle.font_colors.specs.declared.extents.Extents.{Extents}
use Rattle.font_colors.specs.declared.paint_values.PaintValues.{PaintValues}
use Rattle.font_colors.specs.declared.painter.Canvas.{Canvas}
use Rattle.font_colors.specs.declared.transform.Transform.{Transform}

-- what an offset of a list or of a paint leads to: nothing where it is 0
abbrev pub part_of_list : List ℕ → ℕ → List ℕ
part_of_list list offset = if nat_eq offset 0 then [] else drop offset list

abbrev pub behind : List ℕ → ℕ → List ℕ
behind paint at = part_of_list paint (unwrap_or (number_24 paint at) 0)

-- the record of a glyph among so many of six bytes each, as HarfBuzz's bisection finds it
abbrev pub beside_glyph : List ℕ → ℕ → ℕ → ℕ → Option Ordering
beside_glyph table start glyph row = beside_key (number_16 table (start + 6 * row)) glyph

unfoldable pub record_of : List ℕ → ℕ → ℕ → ℕ → Option (List ℕ)
record_of table start count glyph =
    option_map (λ row. drop (start + 6 * row) table) (row_with (beside_glyph table start glyph) count)

-- the paint of a glyph, and that of a layer: nothing where there is no such layer
abbrev pub base_paint : List ℕ → ℕ → Option (List ℕ)
base_paint colr glyph =
    let list = part_at colr 14 in
    option_and_then (λ count. option_and_then (λ own. option_map (part_of_list list) (number_32 own 2))
    (record_of list 4 count glyph)) (number_32 list 0)

abbrev pub layer : List ℕ → ℕ → List ℕ
layer colr n =
    let list = part_at colr 18 in
    if nat_lt n (unwrap_or (number_32 list 0) 0) then part_of_list list (unwrap_or (number_32 list (4 + 4 * n)) 0) else []

-- the layers of a glyph that are filled with one colour each, of those that the table has, and the glyph of one
abbrev pub layers_of : List ℕ → List ℕ → Option Layers
layers_of colr own =
    option_and_then (λ first. option_and_then (λ declared. option_map (λ all. record { first = first; count = min declared (all - first) })
    (number_16 colr 12)) (number_16 own 4)) (number_16 own 2)

abbrev pub layers : List ℕ → ℕ → Option Layers
layers colr glyph =
    option_and_then (λ start. option_and_then (λ count. option_and_then (layers_of colr)
    (record_of colr start count glyph)) (number_16 colr 2)) (number_32 colr 4)

abbrev pub layer_glyph : List ℕ → ℕ → Option ℕ
layer_glyph colr n = option_and_then (λ offset. number_16 (drop offset colr) (4 * n)) (number_32 colr 8)

-- the delta of a number of a paint, by its place behind the one with the first delta set
unfoldable pub paint_delta : List ℕ → ℕ → ℕ → List ℤ → Float
paint_delta colr first place coordinates =
    if nat_eq (length coordinates) 0 then float_zero
    else delta (part_at colr 30) (index_of (part_at colr 26) (delta_set first place)) coordinates

-- the numbers of a paint or of a matrix: the table, the place in the variations, the bytes, and the first delta set
pub record Numbers : Type 0 where
  pub colr : List ℕ
  pub coordinates : List ℤ
  pub bytes : List ℕ
  pub first : ℕ

abbrev pub numbers_of : PaintValues → Numbers
numbers_of v =
    record { colr = v.colr.now.table.now; coordinates = v.coordinates.now; bytes = v.paint.now; first = v.first }

abbrev pub own_delta : Numbers → ℕ → Float
own_delta v place = paint_delta v.colr v.first place v.coordinates

-- a number of a paint, behind its format and the offset of another paint: in font units, and in 16,384ths
unfoldable pub distance : Numbers → ℕ → Float
distance v place =
    add binary32 (of_int binary32 (unwrap_or (signed_16 v.bytes (4 + 2 * place)) (pos 0))) (own_delta v place)

unfoldable pub ratio : Numbers → ℕ → Float
ratio v place = div binary32 (distance v place) (two_to 14)

-- a number of a matrix, in 65,536ths
unfoldable pub factor : Numbers → ℕ → Float
factor v place =
    div binary32 (add binary32 (of_int binary32 (cast_signed w32 (unwrap_or (number_32 v.bytes (4 * place)) 0))) (own_delta v place))
    (two_to 16)

-- the transform of a matrix, by its six numbers; the first delta set stands behind them where the matrix varies
abbrev pub matrix_of : Numbers → Transform
matrix_of v =
    record { xx = factor v 0; yx = factor v 1; xy = factor v 2; yy = factor v 3; dx = factor v 4; dy = factor v 5 }

abbrev pub matrix_set : List ℕ → Bool → ℕ
matrix_set bytes varies = if varies then unwrap_or (number_32 bytes 24) 0 else 0xFFFFFFFF

abbrev pub matrix_numbers : List ℕ → List ℤ → List ℕ → Bool → Numbers
matrix_numbers colr coordinates bytes varies =
    record { colr = colr; coordinates = coordinates; bytes = bytes; first = matrix_set bytes varies }

-- whether a paint is of a format, or of the next one, which has deltas too
abbrev pub is_paint : ℕ → ℕ → Bool
is_paint kind format = nat_eq (format / 2) (kind / 2)

-- how many numbers there are in the formats PaintTranslate, PaintScale and PaintSkew; PaintScaleAroundCenter and
-- PaintSkewAroundCenter; PaintScaleUniform and PaintRotate; PaintScaleUniformAroundCenter and PaintRotateAroundCenter
abbrev pub value_count : ℕ → Option ℕ
value_count format =
    if is_paint 14 format || (is_paint 16 format || is_paint 28 format) then Some 2
    else if is_paint 18 format || is_paint 30 format then Some 4
    else if is_paint 20 format || is_paint 24 format then Some 1
    else if is_paint 22 format || is_paint 26 format then Some 3 else None

-- the first delta set, which stands behind the numbers: that of no variation in formats without. `None` where the paint is cut short
abbrev pub first_set_behind : List ℕ → ℕ → ℕ → Option ℕ
first_set_behind paint format end =
    if nat_eq (format % 2) 1 then number_32 paint end
    else if nat_lt (length paint) end then None else Some 0xFFFFFFFF

abbrev pub first_set : List ℕ → ℕ → Option ℕ
first_set paint format = option_and_then (λ count. first_set_behind paint format (4 + 2 * count)) (value_count format)

-- the center of a paint that scales, turns or slants around one: its last two numbers
abbrev pub center_x : ℕ → Numbers → Float
center_x format v =
    if is_paint 18 format || is_paint 30 format then distance v 2
    else if is_paint 22 format || is_paint 26 format then distance v 1 else float_zero

abbrev pub center_y : ℕ → Numbers → Float
center_y format v =
    if is_paint 18 format || is_paint 30 format then distance v 3
    else if is_paint 22 format || is_paint 26 format then distance v 2 else float_zero

-- a transform after a move, a scaling, one that is alike on both axes, a turn or a slant
unfoldable pub turned_by : ℕ → Numbers → Transform → Transform
turned_by format v t =
    if is_paint 14 format then translated t (distance v 0) (distance v 1)
    else if is_paint 16 format || is_paint 18 format then scaled t (ratio v 0) (ratio v 1)
    else if is_paint 20 format || is_paint 22 format then scaled t (ratio v 0) (ratio v 0)
    else if is_paint 24 format || is_paint 26 format then rotated t (ratio v 0) else skewed t (ratio v 0) (ratio v 1)

-- the same around the paint's center
abbrev pub around_center : ℕ → Numbers → Transform → Transform
around_center format v t =
    translated (turned_by format v (translated t (center_x format v) (center_y format v)))
    (neg (center_x format v)) (neg (center_y format v))

-- a transform after that of a paint; `None` where the paint has none, or is cut short
abbrev pub after_paint : List ℕ → List ℤ → List ℕ → Transform → ℕ → Option Transform
after_paint colr coordinates paint t format =
    if is_paint 12 format
    then option_map (λ _. after t (matrix_of (matrix_numbers colr coordinates (behind paint 4) (nat_eq format 13)))) (number_24 paint 4)
    else option_map (λ first. around_center format (record { colr = colr; coordinates = coordinates; bytes = paint; first = first }) t)
    (first_set paint format)

unfoldable pub transform_of : List ℕ → List ℤ → List ℕ → Transform → Option Transform
transform_of colr coordinates paint t = option_and_then (after_paint colr coordinates paint t) (byte_at paint 0)

-- how many bytes a paint has that fills: PaintSolid, PaintVarSolid, PaintSweepGradient, the other gradients without deltas and
-- PaintVarSweepGradient, and the others with deltas
abbrev pub fill_size : ℕ → ℕ
fill_size format =
    if nat_eq format 2 then 5 else if nat_eq format 3 then 9 else if nat_eq format 8 then 12
    else if nat_eq format 4 || (nat_eq format 6 || nat_eq format 9) then 16 else 20

-- the bounds with a paint that fills all that is not cut off: one that is cut short fills nothing
abbrev pub filled : List ℕ → Canvas → Bounds → Bounds
filled paint canvas group =
    if nat_lt (length paint) (fill_size (unwrap_or (byte_at paint 0) 0)) then group else united group canvas.clip

-- a canvas of which all but a box is cut off, which is turned first
abbrev pub clipped : Canvas → Extents → Canvas
clipped c extents =
    record { transform = c.transform; clip = intersected (bounds_of (transformed c.transform extents)) c.clip }

-- how long a font unit is at a size, and how many font units are as long as one of the size
abbrev pub root : ℤ → ℕ → Float
root size units = div binary32 (of_int binary32 size) (of_int binary32 (pos units))

abbrev pub inverse_root : ℤ → ℕ → Float
inverse_root size units =
    if int_eq size (pos 0) then float_one else div binary32 (of_int binary32 (pos units)) (of_int binary32 size)

-- the transforms from font units to a size, and back
abbrev pub root_transform : Scale → Transform
root_transform s = scaled (scaling float_one float_one) (root s.x s.units_per_em) (root s.y s.units_per_em)

abbrev pub inverse_root_transform : Scale → Transform
inverse_root_transform s = scaled (scaling float_one float_one) (inverse_root s.x s.units_per_em) (inverse_root s.y s.units_per_em)

-- the sides of a glyph's box
abbrev pub extents_of : GlyphExtents → Extents
extents_of b = record {
  x_min = of_int binary32 b.x_bearing;
  y_min = of_int binary32 (saturate_signed w32 (b.y_bearing +ℤ b.height));
  x_max = of_int binary32 (saturate_signed w32 (b.x_bearing +ℤ b.width));
  y_max = of_int binary32 b.y_bearing;
}

-- a box in whole numbers: its left side, its top, its width and its height without their fractions; one around nothing is empty
abbrev pub whole : Extents → GlyphExtents
whole e =
    if is_void e then empty_box
    else record {
      x_bearing = float_to_signed w32 e.x_min;
      y_bearing = float_to_signed w32 e.y_max;
      width = float_to_signed w32 (sub binary32 e.x_max e.x_min);
      height = float_to_signed w32 (sub binary32 e.y_min e.y_max);
    }

-- the box between two corners in font units at a size
abbrev pub box_in_size : Scale → Float → Float → Float → Float → Extents
box_in_size s left low right top =
    let x = root s.x s.units_per_em in
    let y = root s.y s.units_per_em in
    joined (box_at (mul binary32 left x) (mul binary32 low y)) (box_at (mul binary32 right x) (mul binary32 top y))

-- a coordinate of a charstring in font units, of which it counts 65,536ths
abbrev pub in_font_units : ℤ → Float
in_font_units number = div binary32 (of_int binary32 number) (two_to 16)

-- the box around nothing, and the boxes of points and of a path at a size
abbrev pub void : Extents
void = record { x_min = float_zero; y_min = float_zero; x_max = minus_one; y_max = minus_one }

abbrev pub points_box : Scale → PointBounds → Extents
points_box s b = if lt b.max.x b.min.x then void else box_in_size s b.min.x b.min.y b.max.x b.max.y

abbrev pub path_box : Scale → PathBounds → Extents
path_box s b =
    if int_lt b.max.x b.min.x then void
    else box_in_size s (in_font_units b.min.x) (in_font_units b.min.y) (in_font_units b.max.x) (in_font_units b.max.y)
