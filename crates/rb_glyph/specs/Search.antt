-- What a bisection asks of the rows that it searches.
use Rattle.std.specs.Prelude.{◌≡◌, ℕ, ◌<◌, ◌≤◌, nat_lt, if◌then◌else◌, List, length, slice_index_or}
use Rattle.std.specs.Ordering.{ordering_index}
use Rattle.std.specs.declared.cmp.Ordering.{Ordering}
use Rattle.std.specs.declared.cmp.Ordering.TheVariants.{Less, Equal, Greater}

-- the rows come from below what is asked to above it, and one row at most is equal to it
pub record IsSearchable {R : Type 0} (order : R → Ordering) (rows : List R) : Type 0 where
  pub climbs : (i j : ℕ) (d : R) → i < j → j < length rows
      → ordering_index (order (slice_index_or rows i d)) ≤ ordering_index (order (slice_index_or rows j d))
  pub single : (i j : ℕ) (d : R) → i < j → j < length rows → order (slice_index_or rows i d) ≡ Equal
      → ¬ (order (slice_index_or rows j d) ≡ Equal)

-- how a range, from its first number to its last, is to a number: before it, behind it, or one that holds it
abbrev pub range_order : ℕ → ℕ × ℕ → Ordering
range_order c range = if nat_lt c range.0 then Greater else if nat_lt range.1 c then Less else Equal
