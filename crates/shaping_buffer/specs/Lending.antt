-- References that a buffer hands out: what stands in it once they are given back.
use Rattle.std.specs.Prelude.{ℕ, ◌-◌, List, length, slice_set}
use Rattle.std.specs.Option.{option_map}
use Rattle.std.specs.Borrow.{Lends, MutBor, Fml, Array}
use Rattle.rb_glyph.specs.declared.info.hb_glyph_info_t.{hb_glyph_info_t}
use Rattle.rb_glyph.specs.declared.position.GlyphPosition.{GlyphPosition}
use Rattle.rb_glyph.specs.contracts.info.hb_glyph_info_t as glyph
use Rattle.rb_glyph.specs.contracts.position.GlyphPosition as position
use Rattle.shaping_buffer.specs.contracts.buffer.hb_buffer_t.{the_row}
use Rattle.shaping_buffer.specs.State.{State, place_of}
use Rattle.glyph_sides.specs.LendingLists.{refilled}

-- another glyph k places after the cursor
abbrev pub with_cur : State → ℕ → hb_glyph_info_t → State
with_cur s k g = record s { input = slice_set s.input (place_of s k) g }

-- another glyph as the last that was put out
abbrev pub with_prev : State → hb_glyph_info_t → State
with_prev s g = record s { out = slice_set s.out (length s.out - 1) g }

-- other glyphs in the list
abbrev pub with_input : State → List hb_glyph_info_t → State
with_input s gs = record s { input = refilled s.input gs }

-- other glyphs on the out side
abbrev pub with_out : State → List hb_glyph_info_t → State
with_out s gs = record s { out = refilled s.out gs }

-- another position at the cursor
abbrev pub with_cur_pos : State → GlyphPosition → State
with_cur_pos s p = record s { positions = option_map (λ l. slice_set l s.idx p) s.positions }

-- other positions
abbrev pub with_positions : State → List GlyphPosition → State
with_positions s ps = record s { positions = option_map (λ l. refilled l ps) s.positions }

-- ---- What a caller may conclude
--
-- Each word below is of a buffer s and of the reference r that a call on it hands out. It says: r shows what stands at
-- that place, and while r lives nobody else sees the buffer. Once r is given back, the buffer is s with what was
-- written last through r at that place and nowhere else; if nothing was written, it is s. A slice may be written
-- element by element, and keeps its length.

-- the glyph k places after the cursor is lent
abbrev pub LendsCur : MutBor State → ℕ → MutBor hb_glyph_info_t → Fml
LendsCur s k r = Lends the_row glyph.the_row s r (with_cur s.now k)

-- the last glyph that was put out is lent
abbrev pub LendsPrev : MutBor State → MutBor hb_glyph_info_t → Fml
LendsPrev s r = Lends the_row glyph.the_row s r (with_prev s.now)

-- the glyphs of the list are lent
abbrev pub LendsInput : MutBor State → MutBor (List hb_glyph_info_t) → Fml
LendsInput s r = Lends the_row (Array glyph.the_row 0) s r (with_input s.now)

-- the glyphs that were put out are lent
abbrev pub LendsOut : MutBor State → MutBor (List hb_glyph_info_t) → Fml
LendsOut s r = Lends the_row (Array glyph.the_row 0) s r (with_out s.now)

-- the position at the cursor is lent
abbrev pub LendsCurPos : MutBor State → MutBor GlyphPosition → Fml
LendsCurPos s r = Lends the_row position.the_row s r (with_cur_pos s.now)

-- all positions are lent
abbrev pub LendsPositions : MutBor State → MutBor (List GlyphPosition) → Fml
LendsPositions s r = Lends the_row (Array position.the_row 0) s r (with_positions s.now)
