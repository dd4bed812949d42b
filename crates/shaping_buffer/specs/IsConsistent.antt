-- What is true of every buffer's fields.
use Rattle.std.specs.Prelude.{◌≡◌, ◌≤◌, true, false, length, [], vec_capacity}
use Rattle.glyph_sides.specs.TwoLists.{len}
use Rattle.shaping_buffer.specs.declared.buffer.hb_buffer_t.TheInside.{Inside}

pub record IsConsistent (b : Inside) : Type 0 where
  pub len_within : len b.sides ≤ b.max_len
  pub out_within : length b.sides.out ≤ b.max_len
  -- there is room for as many positions as glyphs
  pub room : len b.sides ≤ vec_capacity b.pos
  -- and as many as `ensure` has made room for
  pub has_room : b.sides.room ≤ vec_capacity b.pos
  pub as_many : b.have_positions ≡ true → length b.pos.items ≡ len b.sides
  pub off_while_open : b.sides.is_open ≡ true → b.have_positions ≡ false
  pub off : b.have_positions ≡ false → b.pos.items ≡ []
