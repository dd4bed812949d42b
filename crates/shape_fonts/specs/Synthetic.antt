-- Measures of glyphs that are drawn bolder.
use Rattle.std.specs.Prelude.{ℕ, ℤ, Bool, pos, neg_ℤ, ◌==◌, ◌&&◌, ◌||◌, ◌+ℤ◌, int_lt, if◌then◌else◌}
use Rattle.std.specs.Int.{int_wrapping_add, int_wrapping_sub, saturate_signed, w32}
use Rattle.std.specs.Ordering.{int_eq}
use Rattle.std.specs.Float.{ceil, float_to_signed, float_zero, floor}
use Rattle.std.specs.Float.Ieee.{Float, add, div, eq, lt, mul, of_int, binary32}
use Rattle.font_variations.specs.Rounding.{rounded}
use Rattle.rb_glyph.specs.declared.names.GlyphExtents.{GlyphExtents}

-- the glyph that is shown: one stands for glyph 0
abbrev pub shown : ℕ → ℕ → ℕ
shown not_found glyph = if glyph == 0 then not_found else glyph

-- an advance grows by a strength, unless glyphs grow in place; nothing stays nothing
abbrev pub bolder_advance : Bool → ℤ → ℤ → ℤ
bolder_advance in_place strength advance =
    if in_place || int_eq advance (pos 0) then advance else saturate_signed w32 (advance +ℤ strength)

-- how much bolder glyphs are where an em is so long: rounded, and the other way where the sign is not that of the size
abbrev pub strength_of : ℤ → ℤ → ℤ
strength_of size plain =
    if int_lt plain (pos 0)
    then (if int_lt size (pos 0) then plain else saturate_signed w32 (neg_ℤ plain))
    else (if int_lt size (pos 0) then saturate_signed w32 (neg_ℤ plain) else plain)

abbrev pub strength : ℤ → Float → ℤ
strength size bold = strength_of size (rounded (mul binary32 (of_int binary32 size) bold))

-- how far to the right what stands higher is moved, where an em is so long across and upwards
abbrev pub slant_at : ℤ → ℤ → Float → Float
slant_at x y slant =
    if int_eq y (pos 0) then float_zero
    else div binary32 (mul binary32 slant (of_int binary32 x)) (of_int binary32 y)

-- whether bounds are those of nothing
abbrev pub is_empty : GlyphExtents → Bool
is_empty b =
    int_eq b.x_bearing (pos 0) && (int_eq b.y_bearing (pos 0) && (int_eq b.width (pos 0) && int_eq b.height (pos 0)))

-- slanted bounds: the left side moves with the lesser of what the top and the bottom move by, and the right side with the greater one
abbrev pub left_of : ℤ → Float → ℤ
left_of left least = float_to_signed w32 (floor binary32 (add binary32 (of_int binary32 left) least))

abbrev pub right_of : ℤ → Float → ℤ
right_of right most = float_to_signed w32 (ceil binary32 (add binary32 (of_int binary32 right) most))

abbrev pub between : GlyphExtents → ℤ → ℤ → GlyphExtents
between b left right = record b { x_bearing = left; width = int_wrapping_sub w32 right left }

abbrev pub sheared : GlyphExtents → Float → Float → GlyphExtents
sheared b least most =
    between b (left_of b.x_bearing least) (right_of (int_wrapping_add w32 b.x_bearing b.width) most)

abbrev pub slanted : GlyphExtents → Float → GlyphExtents
slanted b slant =
    let top = mul binary32 (of_int binary32 b.y_bearing) slant in
    let bottom = mul binary32 (of_int binary32 (int_wrapping_add w32 b.y_bearing b.height)) slant in
    if eq slant float_zero then b else if lt top bottom then sheared b top bottom else sheared b bottom top
