use Rattle.font_tables.specs.Rows.{reaches}
use Rattle.font_tables.proofs.RowLemmas.{NoneBelow}
use Rattle.font_tables.proofs.rows.walk.Given as goal

-- the rows so far do not reach the key
abbrev pub invariant-loop-row : goal.invariant-loop-row
invariant-loop-row g l = NoneBelow (reaches (g.R.Rows.last_of l.rows) l.key) l.row
