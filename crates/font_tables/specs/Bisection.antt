-- The row that holds a key, as bisection finds it, also among rows that are not in order: where several rows hold the key it is
-- one of them, and where a row lies on the other side of the key than its place says, the rows beyond it are not looked at.
use Rattle.std.specs.Prelude.{◌≡◌, ℕ, zero, suc, Option, Some, None, ◌+◌, ◌-◌, ◌/◌, ◌<◌, ◌≤◌, nat_lt, is_some, true, if◌then◌else◌}
use Rattle.std.specs.declared.cmp.Ordering.{Ordering}
use Rattle.std.specs.declared.cmp.Ordering.TheVariants.{Less, Equal, Greater}

-- where a key lies from a row that has one key
abbrev pub beside_key : Option ℕ → ℕ → Option Ordering
beside_key None key = None
beside_key (Some own) key = Some (if nat_lt key own then Less else if nat_lt own key then Greater else Equal)

-- where a key that is not before the first key of a row lies, by the row's last key
abbrev pub beside_last : Option ℕ → ℕ → Option Ordering
beside_last None key = None
beside_last (Some last) key = Some (if nat_lt last key then Greater else Equal)

-- where a key lies from a row that goes from a first key to a last one; a row that ends before it begins is behind the keys before
-- its first one
abbrev pub beside_range : Option ℕ → Option ℕ → ℕ → Option Ordering
beside_range None last key = None
beside_range (Some first) last key = if nat_lt key first then Some Less else beside_last last key

-- the row in the middle of those from `low` up to `high`
abbrev pub middle : ℕ → ℕ → ℕ
middle low high = low + (high - 1 - low) / 2

-- the row in the middle, or what a search of those before it or behind it finds; nothing where the row is not there
abbrev pub turned : Option Ordering → ℕ → ℕ → ℕ → (ℕ → ℕ → Option ℕ) → Option ℕ
turned None low middle high search = None
turned (Some Less) low middle high search = search low middle
turned (Some Equal) low middle high search = Some middle
turned (Some Greater) low middle high search = search (middle + 1) high

-- what a search of the rows from `low` up to `high` finds in so many steps
abbrev pub bisected : (ℕ → Option Ordering) → ℕ → ℕ → ℕ → Option ℕ
bisected beside zero low high = None
bisected beside (suc steps) low high =
    if nat_lt low high
    then turned (beside (middle low high)) low (middle low high) high (bisected beside steps) else None

-- the row that holds a key among so many rows, by where the key lies from each
unfoldable pub row_with : (ℕ → Option Ordering) → ℕ → Option ℕ
row_with beside count = bisected beside count 0 count

-- so many rows lie in the table, and are in order: a key before one is before those behind it, and a key behind one is behind
-- those before it
pub record AreInOrder (beside : ℕ → Option Ordering) (count : ℕ) : Type 0 where
  pub there : (row : ℕ) → row < count → is_some (beside row) ≡ true
  pub less : (i j : ℕ) → i ≤ j → j < count → beside i ≡ Some Less → beside j ≡ Some Less
  pub greater : (i j : ℕ) → i ≤ j → j < count → beside j ≡ Some Greater → beside i ≡ Some Greater
