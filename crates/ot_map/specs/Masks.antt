-- The bits of a glyph's mask.
use Rattle.std.specs.Prelude.{ℕ, ◌+◌, ◌-◌, ◌*◌, ◌%◌, ◌^◌, nat_lt, unwrap_or}
use Rattle.font_tables.specs.Rows.{first_below}

-- the mask of neighbouring bits: the number in which these are 1, and all others 0
unfoldable pub mask_of : ℕ → ℕ → ℕ
mask_of shift count = 2 ^ (shift + count) - 2 ^ shift

-- a value in such bits: of a value that has more, the low ones
unfoldable pub value_in : ℕ → ℕ → ℕ → ℕ
value_in shift count value = value % 2 ^ count * 2 ^ shift

-- as few bits as hold a value, eight at most
unfoldable pub bits_needed : ℕ → ℕ
bits_needed value = unwrap_or (first_below (λ count. nat_lt value (2 ^ count)) 8) 8
