use Rattle.std.proofs.Common.{◌-◌, ◌≡◌, ◌≤◌, ℕ}
use Rattle.font_tables.specs.Bisection.{bisected}
use Rattle.font_cmap.proofs.runs.row_run.Given as goal

-- for all codes of the run the search of the rows that are left finds what that of all rows finds
abbrev pub invariant-loop-low : goal.invariant-loop-low
invariant-loop-low g l = record {
  order : l.low ≤ l.high;
  within : l.high ≤ l.count;
  goes : l.code ≤ l.last;
  same : (other : ℕ) → l.code ≤ other → other ≤ l.last
      → bisected (g.R.CodeRows.place_of l.rows other) l.count l.low l.high
      ≡ bisected (g.R.CodeRows.place_of l.rows other) l.count 0 l.count;
}

abbrev pub decreases-loop-low : goal.decreases-loop-low
decreases-loop-low g l = l.high - l.low
