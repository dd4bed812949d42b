use Rattle.unicode_tables.specs.Rows.{class_row}
use Rattle.unicode_tables.proofs.Below.{AreRowsBelow}
use Rattle.unicode_tables.proofs.rows.combining_classes.Given as goal

abbrev pub invariant-loop-code : goal.invariant-loop-code
invariant-loop-code l = AreRowsBelow (λ row. row.0) class_row l.code l.rows.items
