-- Glyphs that are joined, exit to entry (OpenType, "Cursive attachment"). Anchors stand at their coordinates, as those of marks do.
use Rattle.std.specs.Prelude.{ℕ, ℤ, pos, ◌+◌, ◌-◌, ◌*◌, ◌&&◌, List, Option, None, Some, length}
use Rattle.std.specs.Prelude.{if◌then◌else◌, nat_le, nat_lt, unwrap_or, option_and_then}
use Rattle.std.specs.Option.{option_map_or}
use Rattle.std.specs.Ordering.{int_eq}
use Rattle.std.specs.Int.{w16, w32, int_wrapping_add, int_wrapping_neg, int_wrapping_sub}
use Rattle.font_tables.specs.Bytes.{number_16, table_at_16}
use Rattle.font_tables.specs.declared.scale.Scale.{Scale}
use Rattle.rb_common.specs.Direction.{is_horizontal}
use Rattle.rb_common.specs.declared.direction.Direction.{Direction}
use Rattle.rb_common.specs.declared.direction.Direction.TheVariants.{LeftToRight, RightToLeft, TopToBottom, BottomToTop, Invalid}
use Rattle.rb_glyph.specs.declared.info.hb_glyph_info_t.{hb_glyph_info_t}
use Rattle.rb_glyph.specs.declared.position.GlyphPosition.{GlyphPosition}
use Rattle.shaping_buffer.specs.State.{State}
use Rattle.glyph_digests.specs.Covered.{covered_index}
use Rattle.ot_lookups.specs.LookupProps.{glyph_at, share}
use Rattle.ot_layout.specs.SkippingIterator.{previous_found}
use Rattle.ot_layout.specs.declared.matcher.Matcher.TheVariants.{Shown}
use Rattle.ot_layout.specs.declared.skipping_iterator.Found.{Found}
use Rattle.ot_layout.specs.declared.skipping_iterator.Found.TheVariants.{At, Other, End}
use Rattle.ot_gpos_tables.specs.Anchors.{between, placed}
use Rattle.ot_gpos_tables.specs.declared.anchors.Anchor.{Anchor}
use Rattle.ot_gpos.specs.Attachments.{anchor_of, table_of}
use Rattle.ot_attachments.specs.Chains.{chain_of, chain_reversed, position_at, with_chain}
use Rattle.ot_attachments.specs.Flags.{attachments_marked, break_marked, concat_marked}
use Rattle.ot_attachments.specs.Places.{behind}
use Rattle.ot_attachments.specs.Placing.{attached, changed_at, on_positions}
use Rattle.ot_gpos.specs.declared.cursive.Join.{Join}
use Rattle.ot_gpos.specs.declared.cursive.JoinFound.{JoinFound}
use Rattle.ot_gpos.specs.declared.cursive.JoinFound.TheVariants.{Nothing, NoExit, Joined}
use Rattle.ot_gpos.specs.Visit.{Visit}

-- ---- the two anchors

-- the table of an anchor of the glyph with a coverage index, four bytes for each glyph: offsets of entries from the byte 6 on, those of
-- exits from the byte 8 on
abbrev pub anchor_table : List ℕ → ℕ → ℕ → Option (List ℕ)
anchor_table table index at =
    if nat_lt index (unwrap_or (number_16 table 4) 0) then table_at_16 table (at + 4 * index) else None

abbrev pub entry_of : Visit → Option Anchor
entry_of visit = option_and_then (anchor_of visit) (anchor_table (table_of visit) visit.index 6)

abbrev pub exit_of : Visit → List hb_glyph_info_t → ℕ → Option Anchor
exit_of visit gs place =
    option_and_then (λ index. option_and_then (anchor_of visit) (anchor_table (table_of visit) index 8))
    (if nat_lt place (length gs) then covered_index visit.subtable.coverage.table.now (glyph_at gs place).glyph_id else None)

-- the join with the glyph before, by the entry of this one and the exit of that. By the lowest bit of the lookup's flag the glyph
-- before hangs on this one, and else this one on that.
abbrev pub join_with : Visit → List hb_glyph_info_t → Anchor → Found → JoinFound
join_with visit gs entry (At before) =
    option_map_or (λ exit. Joined (record {
      before = before;
      place = visit.place;
      exit = exit;
      entry = entry;
      is_right_to_left = share visit.iterator.lookup_props.flags 1;
    })) (exit_of visit gs before) (NoExit before)
join_with visit gs entry (Other before) = NoExit (before - 1)
join_with visit gs entry End = NoExit 0

unfoldable pub join_of : Visit → List hb_glyph_info_t → JoinFound
join_of visit gs =
    option_map_or (λ entry. if nat_le visit.place (length gs)
    then join_with visit gs entry (previous_found visit.iterator Shown gs visit.place) else Nothing) (entry_of visit) Nothing

-- ---- along the line

-- where an anchor is, across and upwards, from the origin of a glyph at a position
abbrev pub x_of : Anchor → Scale → GlyphPosition → ℤ
x_of a scale p = int_wrapping_add w32 (placed a.x a.x_delta scale.x scale.units_per_em) p.x_offset

abbrev pub y_of : Anchor → Scale → GlyphPosition → ℤ
y_of a scale p = int_wrapping_add w32 (placed a.y a.y_delta scale.y scale.units_per_em) p.y_offset

-- a length is taken from the advance, and the glyph moved back by it
abbrev pub taken_x : ℤ → GlyphPosition → GlyphPosition
taken_x d p = record p { x_advance = int_wrapping_sub w32 p.x_advance d; x_offset = int_wrapping_sub w32 p.x_offset d }

abbrev pub taken_y : ℤ → GlyphPosition → GlyphPosition
taken_y d p = record p { y_advance = int_wrapping_sub w32 p.y_advance d; y_offset = int_wrapping_sub w32 p.y_offset d }

-- the glyph with the exit: its advance ends there, or in lines that run backward begins there
unfoldable pub left_at : Anchor → Scale → Direction → GlyphPosition → GlyphPosition
left_at exit scale LeftToRight p = record p { x_advance = x_of exit scale p }
left_at exit scale RightToLeft p = taken_x (x_of exit scale p) p
left_at exit scale TopToBottom p = record p { y_advance = y_of exit scale p }
left_at exit scale BottomToTop p = taken_y (y_of exit scale p) p
left_at exit scale Invalid p = p

-- the glyph with the entry: its advance begins there, or ends there. From bottom to top HarfBuzz leaves the offset out.
unfoldable pub entered_at : Anchor → Scale → Direction → GlyphPosition → GlyphPosition
entered_at entry scale LeftToRight p = taken_x (x_of entry scale p) p
entered_at entry scale RightToLeft p = record p { x_advance = x_of entry scale p }
entered_at entry scale TopToBottom p = taken_y (y_of entry scale p) p
entered_at entry scale BottomToTop p = record p { y_advance = placed entry.y entry.y_delta scale.y scale.units_per_em }
entered_at entry scale Invalid p = p

unfoldable pub met_along : Join → Direction → Scale → List GlyphPosition → List GlyphPosition
met_along join direction scale ps =
    changed_at (entered_at join.entry scale direction) join.place (changed_at (left_at join.exit scale direction) join.before ps)

-- ---- across the line

-- a glyph hangs on a parent: the one before on this one, or this one on that
abbrev pub child_of : Join → ℕ
child_of join = if join.is_right_to_left then join.before else join.place

abbrev pub parent_of : Join → ℕ
parent_of join = if join.is_right_to_left then join.place else join.before

-- how far the child stands from the parent: from exit to entry, or back
unfoldable pub x_from_parent : Join → Scale → ℤ
x_from_parent join scale =
    let x = between join.exit.x join.exit.x_delta join.entry.x join.entry.x_delta scale.x scale.units_per_em in
    if join.is_right_to_left then x else int_wrapping_neg w32 x

unfoldable pub y_from_parent : Join → Scale → ℤ
y_from_parent join scale =
    let y = between join.exit.y join.exit.y_delta join.entry.y join.entry.y_delta scale.y scale.units_per_em in
    if join.is_right_to_left then y else int_wrapping_neg w32 y

-- the child hangs on the parent, so far from it across the line
unfoldable pub hung : Direction → ℕ → ℕ → ℤ → ℤ → GlyphPosition → GlyphPosition
hung direction child parent x y p =
    let q = attached child parent 2 p in
    if is_horizontal direction then record q { y_offset = y } else record q { x_offset = x }

-- a parent that hung on its child by the same way hangs on it no more
unfoldable pub parted_from : Direction → ℤ → GlyphPosition → GlyphPosition
parted_from direction chain p =
    if int_eq (chain_of p) (int_wrapping_neg w16 chain)
    then (let q = with_chain (pos 0) p in
    if is_horizontal direction then record q { y_offset = pos 0 } else record q { x_offset = pos 0 }) else p

-- the child's own chain is turned before
unfoldable pub hung_on : Direction → ℕ → ℕ → ℤ → ℤ → List GlyphPosition → List GlyphPosition
hung_on direction child parent x y ps =
    let turned = chain_reversed child (is_horizontal direction) parent ps in
    if nat_lt child (length turned)
    then (let hanging = changed_at (hung direction child parent x y) child turned in
    changed_at (parted_from direction (chain_of (position_at hanging child))) parent hanging) else turned

-- exit and entry meet along the line and across it
unfoldable pub joined : Join → Direction → Scale → List GlyphPosition → List GlyphPosition
joined join direction scale ps =
    if nat_lt join.before (length ps) && nat_lt join.place (length ps)
    then hung_on direction (child_of join) (parent_of join) (x_from_parent join scale) (y_from_parent join scale)
    (met_along join direction scale ps) else ps

-- what becomes of a glyph: it is joined to the one before it, from which it may not be parted; without an exit, another text before it
-- might have one
unfoldable pub cursive_placed : Visit → JoinFound → State → State
cursive_placed visit Nothing s = s
cursive_placed visit (NoExit from) s = concat_marked from (behind visit.place) s
cursive_placed visit (Joined join) s =
    attachments_marked (on_positions (joined join s.direction visit.instance.scale) (break_marked join.before (behind visit.place) s))

abbrev pub cursive_next : Visit → JoinFound → Option ℕ
cursive_next visit Nothing = None
cursive_next visit (NoExit from) = None
cursive_next visit (Joined join) = Some (behind visit.place)
