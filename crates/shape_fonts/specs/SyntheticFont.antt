-- What a font answers whose glyphs are drawn bolder.
use Rattle.std.specs.Prelude.{ℕ, ℤ, pos, Bool, not, ◌≡◌, ◌&&◌, ◌||◌, int_div, is_some, nat_eq, if◌then◌else◌}
use Rattle.std.specs.Int.{int_wrapping_add, int_wrapping_sub, w32}
use Rattle.std.specs.Float.{float_zero}
use Rattle.std.specs.Float.Ieee.{eq}
use Rattle.std.specs.Ordering.{int_eq}
use Rattle.font_functions.specs.OwnFunctions.{IsOwnAdvance}
use Rattle.shape_fonts.specs.declared.synthetic_font.SyntheticFont.{SyntheticFont}
use Rattle.rb_glyph.specs.declared.names.GlyphExtents.{GlyphExtents}
use Rattle.shape_fonts.specs.Synthetic.{bolder_advance, is_empty, shown, slanted}

-- an advance is the font's own, which grows by the strength across
pub record IsBolderAdvance (font : SyntheticFont) (glyph : ℕ) (advance : ℤ) : Type 0 where
  pub plain : ℤ
  pub own : IsOwnAdvance font.own.face.now (shown font.not_found.0 glyph) plain
  pub is : advance ≡ bolder_advance font.in_place font.x plain

-- whether a font answers as the font alone does
abbrev pub is_plain : SyntheticFont → Bool
is_plain font =
    int_eq font.x (pos 0) && (int_eq font.y (pos 0) && (eq font.slant float_zero && nat_eq font.not_found.0 0))

-- how much higher lines are, where the font says how high these are
abbrev pub line_growth : SyntheticFont → ℤ
line_growth font = if is_some font.own.face.now.extents then font.y else pos 0

-- the bounds of a glyph that grows to both sides in place, and else to the right, and upwards
abbrev pub bolder : SyntheticFont → GlyphExtents → GlyphExtents
bolder font plain = record {
  x_bearing = int_wrapping_sub w32 plain.x_bearing (if font.in_place then int_div font.x (pos 2) else pos 0);
  y_bearing = int_wrapping_add w32 plain.y_bearing font.y;
  width = int_wrapping_add w32 plain.width font.x;
  height = int_wrapping_sub w32 plain.height font.y;
}

-- the bounds of a glyph as it is drawn: nothing stays nothing, unless it may be what a charstring draws
abbrev pub has_charstrings : SyntheticFont → Bool
has_charstrings font = is_some font.own.face.now.outlines.cff || is_some font.own.face.now.variations.outlines_2

abbrev pub drawn : SyntheticFont → GlyphExtents → GlyphExtents
drawn font plain =
    if is_empty plain && not (has_charstrings font) then plain else bolder font (slanted plain font.slant)
