-- What becomes of the positions of glyphs that are moved or attached.
use Rattle.std.specs.Prelude.{ℕ, ℤ, List, Bool, ◌-◌, ◌&&◌, nat_lt, nat_le, length, if◌then◌else◌, slice_set, slice_index_or, pos, neg_ℤ}
use Rattle.std.specs.Int.{w32, int_wrapping_add, int_wrapping_sub, int_shr}
use Rattle.rb_glyph.specs.declared.position.GlyphPosition.{GlyphPosition}
use Rattle.rb_glyph.specs.Fields.{with_field, field_of_signed}
use Rattle.std.specs.Option.{option_map}
use Rattle.shaping_buffer.specs.Positions.{zero_position}
use Rattle.shaping_buffer.specs.State.{State}

-- the positions of a buffer are changed
abbrev pub on_positions : (List GlyphPosition → List GlyphPosition) → State → State
on_positions f s = record s { positions = option_map f s.positions }

-- one position is changed, if there is one at the place
unfoldable pub changed_at : (GlyphPosition → GlyphPosition) → ℕ → List GlyphPosition → List GlyphPosition
changed_at f place ps = if nat_lt place (length ps) then slice_set ps place (f (slice_index_or ps place zero_position)) else ps

-- how many places away a glyph stands: negative before, positive after; 0 where it is farther away than a chain reaches
abbrev pub chain_between : ℕ → ℕ → ℤ
chain_between place to =
    if nat_le place to && nat_le (to - place) 32767 then pos (to - place)
    else if nat_lt to place && nat_le (place - to) 32767 then neg_ℤ (pos (place - to)) else pos 0

-- a position that is attached to that of another place; the kind is 1 for a mark, 2 for a glyph that is joined to another
unfoldable pub attached : ℕ → ℕ → ℕ → GlyphPosition → GlyphPosition
attached place to kind p = record p {
  var = with_field (with_field p.var 16 8 kind) 0 16 (field_of_signed 16 (chain_between place to));
}

-- a position that is attached to none
unfoldable pub detached : GlyphPosition → GlyphPosition
detached p = record p { var = with_field (with_field p.var 0 16 0) 16 8 0 }

-- a mark stands so far from the glyph that it is attached to
abbrev pub mark_put : ℕ → ℕ → ℤ → ℤ → GlyphPosition → GlyphPosition
mark_put place base x y p = attached place base 1 (record p { x_offset = x; y_offset = y })

-- the advance along the line is so much more
unfoldable pub advanced : Bool → ℤ → GlyphPosition → GlyphPosition
advanced is_horizontal length p =
    if is_horizontal then record p { x_advance = int_wrapping_add w32 p.x_advance length }
    else record p { y_advance = int_wrapping_add w32 p.y_advance length }

-- the glyph stands so much farther along the line
unfoldable pub shifted : Bool → ℤ → GlyphPosition → GlyphPosition
shifted is_horizontal length p =
    if is_horizontal then record p { x_offset = int_wrapping_add w32 p.x_offset length }
    else record p { y_offset = int_wrapping_add w32 p.y_offset length }

-- half of a kerning value, rounded down
abbrev pub half : ℤ → ℤ
half value = int_shr value 1

-- a pair is kerned: half of the value goes to the advance of the left glyph, and the rest to that of the right one, which is moved
-- by it
abbrev pub pair_kerned : Bool → ℤ → ℕ → ℕ → List GlyphPosition → List GlyphPosition
pair_kerned is_horizontal value left right ps =
    let rest = int_wrapping_sub w32 value (half value) in
    changed_at (λ p. shifted is_horizontal rest (advanced is_horizontal rest p)) right
    (changed_at (advanced is_horizontal (half value)) left ps)
