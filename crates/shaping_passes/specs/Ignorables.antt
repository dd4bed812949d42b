-- Characters that are invisible by default, in glyphs.
use Rattle.std.specs.Prelude.{◌==◌, ◌&&◌, Bool, not, List, map, Some, None, bit_and, if◌then◌else◌}
use Rattle.rb_common.specs.declared.glyph_id.GlyphId.{GlyphId}
use Rattle.std.specs.Prelude.{Option}
use Rattle.rb_glyph.specs.declared.info.hb_glyph_info_t.{hb_glyph_info_t}
use Rattle.rb_glyph.specs.declared.flag_sets.TheConstants.BufferFlags.{PRESERVE_DEFAULT_IGNORABLES}
use Rattle.rb_glyph.specs.declared.flag_sets.TheConstants.BufferFlags.{REMOVE_DEFAULT_IGNORABLES}
use Rattle.rb_glyph.specs.declared.flag_sets.TheConstants.UnicodeProps.{IGNORABLE}
use Rattle.rb_glyph.specs.declared.flag_sets.TheConstants.GlyphPropsFlags.{SUBSTITUTED}
use Rattle.rb_glyph.specs.Fields.{field}
use Rattle.shaping_buffer.specs.State.{State}
use Rattle.shaping_buffer.specs.Step.{with_id}
use Rattle.shaping_buffer.specs.ClusterStep.{asks}
use Rattle.shaping_buffer.specs.GroupStep.{delete_glyphs_inplace}

-- the glyph stands for a character that is invisible by default, and no lookup put it there
abbrev pub is_ignorable : hb_glyph_info_t → Bool
is_ignorable g = not (bit_and (field g.var2 0 16) IGNORABLE.0 == 0) && (bit_and (field g.var1 0 16) SUBSTITUTED.0 == 0)

-- such a glyph under the id of the invisible glyph
abbrev pub shown_as : GlyphId → hb_glyph_info_t → hb_glyph_info_t
shown_as id g = if is_ignorable g then with_id id.0 g else g

abbrev pub made_invisible : GlyphId → List hb_glyph_info_t → List hb_glyph_info_t
made_invisible id l = map (shown_as id) l

-- they are shown by the invisible glyph, and where there is none they are deleted
abbrev pub replaced_by : Option GlyphId → State → State
replaced_by None s = delete_glyphs_inplace is_ignorable s
replaced_by (Some id) s = record s { input = made_invisible id s.input }

-- `hide_default_ignorables`: nothing where the flags preserve them, and where the flags remove them no glyph is left
abbrev pub hide_default_ignorables : State → State
hide_default_ignorables s =
    if asks PRESERVE_DEFAULT_IGNORABLES s then s
    else (if asks REMOVE_DEFAULT_IGNORABLES s then delete_glyphs_inplace is_ignorable s else replaced_by s.invisible s)
