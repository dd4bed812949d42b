-- Sizes in pixels of a bitmap, in font units.
use Rattle.std.specs.Prelude.{ℕ, ℤ, pos}
use Rattle.std.specs.Float.Ieee.{binary32, div, mul, of_int}
use Rattle.font_variations.specs.Rounding.{rounded}
use Rattle.rb_glyph.specs.declared.names.GlyphExtents.{GlyphExtents}
use Rattle.font_colors.specs.declared.pixels.PixelBox.{PixelBox}

-- so many pixels in font units, where an em has so many of both
abbrev pub units : ℕ → ℕ → ℤ → ℤ
units units_per_em ppem pixels =
    rounded (mul binary32 (of_int binary32 pixels)
    (div binary32 (of_int binary32 (pos units_per_em)) (of_int binary32 (pos ppem))))

-- a box in font units
abbrev pub in_units : PixelBox → ℕ → GlyphExtents
in_units box units_per_em = record {
  x_bearing = units units_per_em box.x_ppem box.extents.x_bearing;
  y_bearing = units units_per_em box.y_ppem box.extents.y_bearing;
  width = units units_per_em box.x_ppem box.extents.width;
  height = units units_per_em box.y_ppem box.extents.height;
}
