-- Rows that have a last key each, by their numbers, and the first one that reaches a key.
use Rattle.std.specs.Prelude.{ℕ, zero, suc, Bool, true, false, ◌≡◌, ◌<◌, ◌≤◌, nat_le, List, length, min, ◌-◌, ◌/◌, Option, Some, None, if◌then◌else◌, is_some}
use Rattle.std.specs.Option.{option_or}

-- the first number below `n` that passes a test
abbrev pub first_below : (ℕ → Bool) → ℕ → Option ℕ
first_below test zero = None
first_below test (suc n) = option_or (first_below test n) (if test n then Some n else None)

-- a row reaches a key whose last key is not below it; one that lies outside of the table reaches none
abbrev pub is_at_most : ℕ → Option ℕ → Bool
is_at_most key None = false
is_at_most key (Some last) = nat_le key last

abbrev pub reaches : (ℕ → Option ℕ) → ℕ → ℕ → Bool
reaches last key row = is_at_most key (last row)

-- the first of so many rows that reaches a key
abbrev pub first_row : (ℕ → Option ℕ) → ℕ → ℕ → Option ℕ
first_row last key count = first_below (reaches last key) count

-- of so many rows, each behind one that reaches a key reaches it too: their last keys do not fall
abbrev pub Rises : (ℕ → Option ℕ) → ℕ → Type 0
Rises last count =
    (i j key : ℕ) → i ≤ j → j < count → reaches last key i ≡ true → reaches last key j ≡ true

-- so many rows lie in the table
abbrev pub AreThere : (ℕ → Option ℕ) → ℕ → Type 0
AreThere last count = (row : ℕ) → row < count → is_some (last row) ≡ true

-- how many of the declared rows, each of `size` bytes, lie in a table whole from the byte at `start` on
abbrev pub rows_within : List ℕ → ℕ → ℕ → ℕ → ℕ
rows_within bs start size declared = min declared ((length bs - start) / size)

-- whether a number is there, and is not above another
abbrev pub is_within : Option ℕ → ℕ → Bool
is_within None most = false
is_within (Some number) most = nat_le number most
