-- Graphemes that stand closer or farther apart at a size, by a table `trak` (HarfBuzz, `trak::apply`).
use Rattle.std.specs.Prelude.{ℕ, ℤ, pos, ◌==◌, ◌&&◌, ◌||◌, Bool, not, List, [], ◌∷◌, bit_and, int_div, if◌then◌else◌}
use Rattle.std.specs.Float.{float_zero}
use Rattle.std.specs.Float.Ieee.{lt}
use Rattle.std.specs.Int.{w32, int_wrapping_add}
use Rattle.std.specs.Option.{option_map}
use Rattle.rb_common.specs.Direction.{is_horizontal}
use Rattle.rb_glyph.specs.declared.info.hb_glyph_info_t.{hb_glyph_info_t}
use Rattle.rb_glyph.specs.declared.position.GlyphPosition.{GlyphPosition}
use Rattle.shaping_buffer.specs.State.{State}
use Rattle.script_items.specs.Graphemes.{is_continuation}
use Rattle.aat_tables.specs.Tracking.{scaled, tracking_at}
use Rattle.font_face.specs.declared.face.Face.{Face}
use Rattle.ot_positions.specs.Widths.{each_changed, where_glyph}
use Rattle.ot_positions.specs.declared.tracking.Space.{Space}

-- ---- how far

-- how many font units the table adds at the size of a font in points
abbrev pub units_of : Face → Bool → ℤ
units_of face is_horizontal = tracking_at face.layout.trak.now is_horizontal face.points_per_em

-- font units along the line, at the size of the font
abbrev pub at_size : Face → Bool → ℤ → ℤ
at_size face is_horizontal units = scaled units (if is_horizontal then face.scale.x else face.scale.y) face.units_per_em

-- all of them are added to the advance, and the glyph is moved by half
unfoldable pub space_of : Face → Bool → Space
space_of face is_horizontal = record {
  is_horizontal = is_horizontal;
  advance = at_size face is_horizontal (units_of face is_horizontal);
  offset = at_size face is_horizontal (int_div (units_of face is_horizontal) (pos 2));
}

-- along the line
unfoldable pub moved_apart : Space → GlyphPosition → GlyphPosition
moved_apart space p =
    if space.is_horizontal
    then record p {
      x_advance = int_wrapping_add w32 p.x_advance space.advance;
      x_offset = int_wrapping_add w32 p.x_offset space.offset;
    }
    else record p {
      y_advance = int_wrapping_add w32 p.y_advance space.advance;
      y_offset = int_wrapping_add w32 p.y_offset space.offset;
    }

-- ---- which glyphs

-- the glyph begins a grapheme, and has a bit of the mask
unfoldable pub is_tracked : ℕ → hb_glyph_info_t → Bool
is_tracked mask g = not (is_continuation g) && not (bit_and g.mask mask == 0)

-- the first of a text begins one, whatever its properties say
abbrev pub begun : List hb_glyph_info_t → List hb_glyph_info_t
begun [] = []
begun (g ∷ l) = record g { var2 = 0 } ∷ l

-- such glyphs are moved
abbrev pub tracked : ℕ → Space → State → State
tracked mask space s = record s {
  positions = option_map (each_changed (where_glyph (is_tracked mask) (moved_apart space)) (begun s.input)) s.positions;
}

-- where the feature has no mask, and where no size in points is said, none is
unfoldable pub is_idle : ℕ → Face → Bool
is_idle mask face = (mask == 0) || not (lt float_zero face.points_per_em)

-- `track`
abbrev pub track : Face → ℕ → State → State
track face mask s = if is_idle mask face then s else tracked mask (space_of face (is_horizontal s.direction)) s
