-- One position of a buffer that becomes another.
use Rattle.std.specs.Prelude.{ℕ, zero, suc, List, [], ◌∷◌}
use Rattle.std.specs.Option.{option_map}
use Rattle.rb_glyph.specs.declared.position.GlyphPosition.{GlyphPosition}
use Rattle.shaping_buffer.specs.State.{State}

-- the position at a place, if there is one, becomes what f makes of it
unfoldable pub changed_at : (GlyphPosition → GlyphPosition) → ℕ → List GlyphPosition → List GlyphPosition
changed_at f place [] = []
changed_at f zero (p ∷ ps) = f p ∷ ps
changed_at f (suc place) (p ∷ ps) = p ∷ changed_at f place ps

-- the same of a buffer
abbrev pub position_changed : (GlyphPosition → GlyphPosition) → ℕ → State → State
position_changed f place s = record s { positions = option_map (changed_at f place) s.positions }
