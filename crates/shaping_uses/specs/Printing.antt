-- A text as its glyphs are printed.
use Rattle.std.specs.Prelude.{ℕ, List, pos}
use Rattle.rb_glyph.specs.declared.flag_sets.TheConstants.SerializeFlags.{NO_GLYPH_NAMES}
use Rattle.std.specs.Str.{chars}
use Rattle.shaping_buffer.specs.State.{State, empty_state}
use Rattle.glyph_sides.specs.TextGlyphs.{glyphs_at}
use Rattle.shaping_buffer.specs.Positions.{with_zero_positions}
use Rattle.glyph_text.specs.Text.{nothing_known}
use Rattle.shaping_buffer.specs.Text.{text_of}

-- a new buffer with the glyphs of a text
abbrev pub text_buffer : List ℕ → State
text_buffer text = record (empty_state 0x3FFF_FFFF (pos 0x1FFF_FFFF)) { input = glyphs_at 0 (chars text) }

-- its characters with their clusters, all of them at advance 0
abbrev pub printed_characters : List ℕ → List ℕ
printed_characters text = text_of nothing_known NO_GLYPH_NAMES (with_zero_positions (text_buffer text))
