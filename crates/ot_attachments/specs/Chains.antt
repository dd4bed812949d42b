-- Chains of glyphs that hang on others: how many places away each stands from its parent, back where negative.
use Rattle.std.specs.Prelude.{ℕ, ℤ, pos, zero, suc, ◌+◌, ◌-◌, ◌==◌, ◌&&◌, Bool, not, List, Option, None, Some, length}
use Rattle.std.specs.Prelude.{if◌then◌else◌, int_lt, unsigned_abs, nat_le, nat_lt, slice_index_or, option_and_then}
use Rattle.std.specs.Option.{option_map_or}
use Rattle.std.specs.Int.{w16, w32, int_wrapping_neg}
use Rattle.std.specs.Ordering.{int_eq}
use Rattle.rb_glyph.specs.Fields.{field, field_of_signed, signed_of_field, with_field}
use Rattle.rb_glyph.specs.declared.position.GlyphPosition.{GlyphPosition}
use Rattle.shaping_buffer.specs.Positions.{zero_position}
use Rattle.ot_lookups.specs.LookupProps.{share}
use Rattle.ot_attachments.specs.Placing.{changed_at}
use Rattle.ot_attachments.specs.declared.chains.Link.{Link}

-- the chain of a position, and the kind of its attachment: 1 for a mark, 2 for a glyph that is joined to another
abbrev pub chain_of : GlyphPosition → ℤ
chain_of p = signed_of_field 16 (field p.var 0 16)

abbrev pub kind_of : GlyphPosition → ℕ
kind_of p = field p.var 16 8

-- a position with this chain
abbrev pub with_chain : ℤ → GlyphPosition → GlyphPosition
with_chain chain p = record p { var = with_field p.var 0 16 (field_of_signed 16 chain) }

-- the place that a chain leads to, if it is one of so many
abbrev pub place_at : ℕ → ℤ → Option ℕ
place_at place chain =
    let far = unsigned_abs chain in
    if int_lt chain (pos 0) then (if nat_le far place then Some (place - far) else None) else Some (place + far)

unfoldable pub place_behind : ℕ → ℤ → ℕ → Option ℕ
place_behind place chain len =
    option_and_then (λ to. if nat_lt to len then Some to else None) (place_at place chain)

abbrev pub position_at : List GlyphPosition → ℕ → GlyphPosition
position_at ps place = slice_index_or ps place zero_position

-- whether a glyph is joined to another
abbrev pub is_joined : GlyphPosition → Bool
is_joined p = not (int_eq (chain_of p) (pos 0)) && share (kind_of p) 2

-- the link of a chain at a place
unfoldable pub link_at : List GlyphPosition → ℕ → Option Link
link_at ps place =
    if nat_lt place (length ps) && is_joined (position_at ps place)
    then Some (record { place = place; position = position_at ps place }) else None

-- a glyph on which the one at a link hung hangs on that now: as far from it across the line, on the other side
unfoldable pub turned_by : Bool → GlyphPosition → GlyphPosition → GlyphPosition
turned_by is_horizontal from p =
    let moved = if is_horizontal then record p { y_offset = int_wrapping_neg w32 from.y_offset } else record p { x_offset = int_wrapping_neg w32 from.x_offset } in
    with_chain (int_wrapping_neg w16 (chain_of from)) (record moved { var = with_field moved.var 16 8 (kind_of from) })

-- the glyphs behind a link are turned, one after the other, up to the new parent or to the end of the chain
abbrev pub links_turned : ℕ → Bool → ℕ → Link → List GlyphPosition → List GlyphPosition
links_turned zero is_horizontal parent link ps = ps
links_turned (suc steps) is_horizontal parent link ps =
    option_map_or (λ place. if place == parent then ps else
    let turned = changed_at (turned_by is_horizontal link.position) place ps in
    option_map_or (λ next. links_turned steps is_horizontal parent next turned) (link_at ps place) turned)
    (place_behind link.place (chain_of link.position) (length ps)) ps

-- The chain of a glyph is turned around, before the glyph gets a new parent: what it hung on hangs on it (HarfBuzz,
-- `reverse_cursive_minor_offset`).
unfoldable pub chain_reversed : ℕ → Bool → ℕ → List GlyphPosition → List GlyphPosition
chain_reversed child is_horizontal parent ps =
    option_map_or (λ link.
    links_turned (length ps) is_horizontal parent link (changed_at (with_chain (pos 0)) child ps)) (link_at ps child) ps
