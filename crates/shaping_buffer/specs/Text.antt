-- The serialized text of a buffer.
use Rattle.std.specs.Prelude.{ℕ, List, [], unwrap_or}
use Rattle.std.specs.List.{zip}
use Rattle.rb_glyph.specs.declared.flag_sets.SerializeFlags.{SerializeFlags}
use Rattle.rb_glyph.specs.declared.info.hb_glyph_info_t.{hb_glyph_info_t}
use Rattle.rb_glyph.specs.declared.position.GlyphPosition.{GlyphPosition}
use Rattle.glyph_text.specs.Text.{Font, glyphs_text}
use Rattle.shaping_buffer.specs.State.{State}

-- the glyphs with their positions
abbrev pub glyphs_of : State → List (hb_glyph_info_t × GlyphPosition)
glyphs_of s = zip s.input (unwrap_or s.positions [])

-- the text of what a buffer holds
abbrev pub text_of : Font → SerializeFlags → State → List ℕ
text_of font flags s = glyphs_text font flags (glyphs_of s)
