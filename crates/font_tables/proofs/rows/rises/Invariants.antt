use Rattle.std.proofs.Common.{◌≡◌, ◌≤◌, ◌<◌, ℕ, true}
use Rattle.font_tables.specs.Rows.{reaches, Rises}
use Rattle.font_tables.proofs.rows.rises.Given as goal

-- the rows so far rise, and the last key so far is the highest key that one of them reaches
abbrev pub invariant-loop-row : goal.invariant-loop-row
invariant-loop-row g l = record {
  rise : Rises (g.R.Rows.last_of l.rows) l.row;
  most : (i key : ℕ) → i < l.row → reaches (g.R.Rows.last_of l.rows) key i ≡ true → key ≤ l.before;
  seen : 0 < l.before → (i : ℕ) × (i < l.row) × (reaches (g.R.Rows.last_of l.rows) l.before i ≡ true);
}
