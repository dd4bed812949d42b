use Rattle.std.proofs.Common.{◌-◌, ◌≡◌, ◌≤◌, ◌<◌, ℕ, Some}
use Rattle.std.specs.declared.cmp.Ordering.TheVariants.{Equal}
use Rattle.font_tables.specs.Bisection.{AreInOrder, bisected}
use Rattle.font_tables.proofs.bisection.row_with.Given as goal

-- the search of the rows that are left finds what that of all rows finds; in order, no other row holds the key
abbrev pub invariant-loop-low : goal.invariant-loop-low
invariant-loop-low g l = record {
  order : l.low ≤ l.high;
  within : l.high ≤ l.count;
  same : bisected (g.R.KeyedRows.beside_of l.rows l.key) l.count l.low l.high
      ≡ bisected (g.R.KeyedRows.beside_of l.rows l.key) l.count 0 l.count;
  before : AreInOrder (g.R.KeyedRows.beside_of l.rows l.key) l.count
      → (row : ℕ) → row < l.low → g.R.KeyedRows.beside_of l.rows l.key row ≡ Some Equal → ⊥;
  behind : AreInOrder (g.R.KeyedRows.beside_of l.rows l.key) l.count
      → (row : ℕ) → l.high ≤ row → row < l.count → g.R.KeyedRows.beside_of l.rows l.key row ≡ Some Equal → ⊥;
}

abbrev pub decreases-loop-low : goal.decreases-loop-low
decreases-loop-low g l = l.high - l.low
