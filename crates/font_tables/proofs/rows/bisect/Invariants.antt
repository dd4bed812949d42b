use Rattle.std.proofs.Common.{◌-◌, ◌≡◌, ◌≤◌, ◌<◌, true}
use Rattle.font_tables.specs.Rows.{reaches}
use Rattle.font_tables.proofs.RowLemmas.{NoneBelow}
use Rattle.font_tables.proofs.rows.bisect.Given as goal

-- the rows before `low` do not reach the key, and that at `high` does
abbrev pub invariant-loop-low : goal.invariant-loop-low
invariant-loop-low g l = record {
  order : l.low ≤ l.high;
  within : l.high ≤ l.count;
  before : NoneBelow (reaches (g.R.Rows.last_of l.rows) l.key) l.low;
  behind : l.high < l.count → reaches (g.R.Rows.last_of l.rows) l.key l.high ≡ true;
}

abbrev pub decreases-loop-low : goal.decreases-loop-low
decreases-loop-low g l = l.high - l.low
