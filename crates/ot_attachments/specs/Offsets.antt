-- The offsets of attached glyphs, once all lookups were applied (OpenType, "Attachment point"; HarfBuzz, `GPOS::position_finish_offsets`).
use Rattle.std.specs.Prelude.{ℕ, ℤ, pos, zero, suc, ◌+◌, List, Option, None, length, map, nat_lt, slice_index_or, if◌then◌else◌}
use Rattle.std.specs.Int.{w32, int_wrapping_add, int_wrapping_sub}
use Rattle.std.specs.Option.{option_map_or}
use Rattle.std.specs.Ordering.{int_eq}
use Rattle.rb_common.specs.Direction.{is_forward, is_horizontal}
use Rattle.rb_common.specs.declared.direction.Direction.{Direction}
use Rattle.rb_glyph.specs.declared.position.GlyphPosition.{GlyphPosition}
use Rattle.shaping_buffer.specs.State.{State}
use Rattle.ot_lookups.specs.LookupProps.{share}
use Rattle.ot_attachments.specs.Chains.{chain_of, kind_of, place_behind, position_at, with_chain}
use Rattle.ot_attachments.specs.Placing.{changed_at, on_positions}

-- the sum of the advances from a place up to another, as 32 bits hold it
abbrev pub sum_between : ℕ → ℕ → List ℤ → ℤ
sum_between from zero advances = pos 0
sum_between from (suc k) advances =
    if nat_lt k from then pos 0 else int_wrapping_add w32 (sum_between from k advances) (slice_index_or advances k (pos 0))

abbrev pub across : List GlyphPosition → List ℤ
across ps = map (λ p. p.x_advance) ps

abbrev pub down : List GlyphPosition → List ℤ
down ps = map (λ p. p.y_advance) ps

-- A glyph that is joined to another stands as far across the line as that one.
unfoldable pub joined : Direction → GlyphPosition → GlyphPosition → GlyphPosition
joined direction parent p =
    if is_horizontal direction then record p { y_offset = int_wrapping_add w32 p.y_offset parent.y_offset }
    else record p { x_offset = int_wrapping_add w32 p.x_offset parent.x_offset }

-- How far it is from a glyph to a mark behind it: in lines that run forward the advances from that glyph up to the mark, else those
-- behind the glyph, the mark's own among them.
abbrev pub way : Direction → ℕ → ℕ → List ℤ → ℤ
way direction parent place advances =
    if is_forward direction then sum_between parent place advances else sum_between (parent + 1) (place + 1) advances

-- A mark stands where the glyph does on which it hangs: so far back in lines that run forward, else ahead.
abbrev pub gone : Direction → ℤ → ℤ → ℤ
gone direction far offset =
    if is_forward direction then int_wrapping_sub w32 offset far else int_wrapping_add w32 offset far

unfoldable pub hung : Direction → GlyphPosition → ℤ → ℤ → GlyphPosition → GlyphPosition
hung direction parent x y p = record p {
  x_offset = gone direction x (int_wrapping_add w32 p.x_offset parent.x_offset);
  y_offset = gone direction y (int_wrapping_add w32 p.y_offset parent.y_offset);
}

-- the glyph at a place is moved to where its parent stands, by the kind of its attachment
unfoldable pub moved_to_parent : Direction → ℕ → ℕ → ℕ → List GlyphPosition → List GlyphPosition
moved_to_parent direction kind place parent ps =
    let at = position_at ps parent in
    changed_at (λ p. if share kind 2 then joined direction at p
    else hung direction at (way direction parent place (across ps)) (way direction parent place (down ps)) p) place ps

-- the glyph at a place is attached to none
unfoldable pub unchained : ℕ → List GlyphPosition → List GlyphPosition
unchained place ps =
    if int_eq (chain_of (position_at ps place)) (pos 0) then ps else changed_at (with_chain (pos 0)) place ps

-- the place of the glyph that the one at a place is attached to
unfoldable pub parent_of : ℕ → List GlyphPosition → Option ℕ
parent_of place ps =
    let chain = chain_of (position_at ps place) in
    if int_eq chain (pos 0) then None else place_behind place chain (length ps)

-- The glyph at a place is moved to where its parent stands, which is moved first, in so many levels at most; and it is attached to none
-- (HarfBuzz, `propagate_attachment_offsets`).
abbrev pub propagated : Direction → ℕ → ℕ → List GlyphPosition → List GlyphPosition
propagated direction zero place ps = unchained place ps
propagated direction (suc levels) place ps =
    option_map_or (λ parent.
    moved_to_parent direction (kind_of (position_at ps place)) place parent (propagated direction levels parent (unchained place ps)))
    (parent_of place ps) (unchained place ps)

-- the glyphs before a place, one after the other; a chain has 64 levels at most
abbrev pub propagated_before : Direction → ℕ → List GlyphPosition → List GlyphPosition
propagated_before direction zero ps = ps
propagated_before direction (suc place) ps = propagated direction 64 place (propagated_before direction place ps)

-- all glyphs, if any is attached (bit 3 of the scratch flags)
unfoldable pub offsets_finished : State → State
offsets_finished s =
    if share s.scratch_flags 8 then on_positions (λ ps. propagated_before s.direction (length ps) ps) s else s
