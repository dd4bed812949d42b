-- What is true of the fields that hold both sides.
use Rattle.std.specs.Prelude.{◌≡◌, ℕ, ◌+◌, ◌-◌, ◌≤◌, true, false, length, [], vec_capacity, if◌then◌else◌}
use Rattle.glyph_sides.specs.declared.sides.Sides.TheInside.{Inside}

-- how many glyphs were put out in place
abbrev pub placed : Inside → ℕ
placed b = if b.is_open then b.cursor - b.gap else 0

pub record IsStored (b : Inside) : Type 0 where
  pub cursor_within : b.cursor ≤ length b.info.items
  -- the places that stand free are before the cursor
  pub free_within : b.front + b.gap ≤ b.cursor
  pub no_front : b.is_separate ≡ false → b.front ≡ 0
  pub no_gap : b.is_separate ≡ true → b.gap ≡ 0
  pub out_empty : b.is_separate ≡ false → b.out_info.items ≡ []
  pub shut : b.is_open ≡ false → (b.is_separate ≡ false) × (b.gap ≡ 0) × (b.front ≡ 0)
  -- each of the two vectors may become the other side
  pub has_room : b.room ≤ vec_capacity b.info
  pub has_out_room : b.room ≤ vec_capacity b.out_info
