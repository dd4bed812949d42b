-- The subroutines of charstrings (The Type 2 Charstring Format, "Subroutine Operators").
use Rattle.std.specs.Prelude.{ℕ, ℤ, pos, negsuc, ◌+ℤ◌, List, Option, None, nat_lt, if◌then◌else◌}
use Rattle.outline_tables.specs.Index.{index_count, index_item}

-- what is added to a subroutine's number, by how many there are
abbrev pub bias : ℕ → ℕ
bias count = if nat_lt count 1240 then 107 else if nat_lt count 33900 then 1131 else 32768

-- the item at a place, which is none before the first
abbrev pub item_at : List ℕ → ℤ → Option (List ℕ)
item_at index (pos place) = index_item index place
item_at index (negsuc _) = None

-- the subroutine that a number calls
unfoldable pub subroutine : List ℕ → ℤ → Option (List ℕ)
subroutine index number = item_at index (number +ℤ pos (bias (index_count index)))
