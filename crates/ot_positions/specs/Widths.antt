-- Glyphs that take no room: marks, what is invisible by default, what was deleted (HarfBuzz, `zero_mark_widths_by_gdef`,
-- `hb_ot_zero_width_default_ignorables`, `hb_aat_layout_zero_width_deleted_glyphs`).
use Rattle.std.specs.Prelude.{pos, ◌==◌, ◌&&◌, Bool, not, List, [], ◌∷◌, bit_and, if◌then◌else◌}
use Rattle.std.specs.Option.{option_map}
use Rattle.std.specs.Int.{w32, int_wrapping_sub}
use Rattle.rb_glyph.specs.Fields.{field}
use Rattle.rb_glyph.specs.declared.info.hb_glyph_info_t.{hb_glyph_info_t}
use Rattle.rb_glyph.specs.declared.position.GlyphPosition.{GlyphPosition}
use Rattle.rb_glyph.specs.declared.flag_sets.TheConstants.BufferFlags.{PRESERVE_DEFAULT_IGNORABLES, REMOVE_DEFAULT_IGNORABLES}
use Rattle.rb_glyph.specs.declared.flag_sets.TheConstants.GlyphPropsFlags.{MARK}
use Rattle.rb_glyph.specs.declared.scratch.TheConstants.{HB_BUFFER_SCRATCH_FLAG_HAS_DEFAULT_IGNORABLES}
use Rattle.shaping_buffer.specs.ClusterStep.{asks}
use Rattle.shaping_buffer.specs.Positions.{zero_position}
use Rattle.shaping_buffer.specs.State.{State}
use Rattle.shaping_passes.specs.Ignorables.{is_ignorable}
use Rattle.aat_substitution.specs.Deletion.{is_deleted}

-- ---- positions of a text

-- what becomes of a position hangs on it and on its glyph
abbrev pub Change : Type 0
Change = hb_glyph_info_t → GlyphPosition → GlyphPosition

-- each position becomes what f makes of its glyph and of it
unfoldable pub each_changed : Change → List hb_glyph_info_t → List GlyphPosition → List GlyphPosition
each_changed f [] ps = ps
each_changed f (g ∷ gs) [] = []
each_changed f (g ∷ gs) (p ∷ ps) = f g p ∷ each_changed f gs ps

-- the same of a buffer, of which all else stays
abbrev pub changed : Change → State → State
changed f s = record s { positions = option_map (each_changed f s.input) s.positions }

-- the positions of the glyphs that pass a test become what f makes of them
abbrev pub where_glyph : (hb_glyph_info_t → Bool) → (GlyphPosition → GlyphPosition) → Change
where_glyph test f g p = if test g then f p else p

-- ---- one position

-- no advance; where marks are adjusted the glyph is moved back by what it had
abbrev pub without_advance : Bool → GlyphPosition → GlyphPosition
without_advance adjusts p = record p {
  x_advance = pos 0;
  y_advance = pos 0;
  x_offset = if adjusts then int_wrapping_sub w32 p.x_offset p.x_advance else p.x_offset;
  y_offset = if adjusts then int_wrapping_sub w32 p.y_offset p.y_advance else p.y_offset;
}

-- no advance and no offset; what the glyph is attached to stays
abbrev pub without_width : GlyphPosition → GlyphPosition
without_width p = record zero_position { var = p.var }

-- ---- the steps

-- the glyph is a mark by the font's table `GDEF`
abbrev pub is_mark : hb_glyph_info_t → Bool
is_mark g = not (bit_and (field g.var1 0 16) MARK.0 == 0)

-- marks take no room
abbrev pub zero_mark_widths : Bool → State → State
zero_mark_widths adjusts s = changed (where_glyph is_mark (without_advance adjusts)) s

-- the text has characters that are invisible by default, and the flags say neither that they stay nor that they go
abbrev pub hides_ignorables : State → Bool
hides_ignorables s =
    not (bit_and s.scratch_flags HB_BUFFER_SCRATCH_FLAG_HAS_DEFAULT_IGNORABLES == 0)
    && (not (asks PRESERVE_DEFAULT_IGNORABLES s) && not (asks REMOVE_DEFAULT_IGNORABLES s))

-- the glyph is that of a character which is invisible by default, and no lookup put it there
unfoldable pub is_default_ignorable : hb_glyph_info_t → Bool
is_default_ignorable g = is_ignorable g

-- then they take no room
abbrev pub zero_width_default_ignorables : State → State
zero_width_default_ignorables s =
    if hides_ignorables s then changed (where_glyph is_default_ignorable without_width) s else s

-- glyphs that a table `morx` deleted take no room
abbrev pub zero_width_deleted_glyphs : State → State
zero_width_deleted_glyphs s = changed (where_glyph is_deleted without_width) s
