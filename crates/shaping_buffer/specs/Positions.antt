-- Positions of glyphs.
use Rattle.std.specs.Prelude.{length, Some, replicate, pos}
use Rattle.rb_glyph.specs.declared.position.GlyphPosition.{GlyphPosition}
use Rattle.shaping_buffer.specs.State.{State}

-- the position whose fields are all 0
abbrev pub zero_position : GlyphPosition
zero_position = record { x_advance = pos 0; y_advance = pos 0; x_offset = pos 0; y_offset = pos 0; var = 0 }

-- positions are on, all 0
abbrev pub with_zero_positions : State → State
with_zero_positions s = record s { positions = Some (replicate (length s.input) zero_position) }
