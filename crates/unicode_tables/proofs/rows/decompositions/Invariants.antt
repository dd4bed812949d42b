use Rattle.unicode_tables.specs.Rows.{decomposition_row}
use Rattle.unicode_tables.proofs.Below.{AreRowsBelow}
use Rattle.unicode_tables.proofs.rows.decompositions.Given as goal

abbrev pub invariant-loop-code : goal.invariant-loop-code
invariant-loop-code l = AreRowsBelow (λ row. row.0) decomposition_row l.code l.rows.items
