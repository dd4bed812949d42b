use Rattle.std.proofs.Common.{◌≡◌, length}
use Rattle.rb_text.specs.LanguageTable.{rows_of, is_table}
use Rattle.rb_text.proofs.language_table.is_table.Given as goal

abbrev pub invariant-loop-rest : goal.invariant-loop-rest
invariant-loop-rest l = is_table (rows_of l.rest) ≡ is_table (rows_of l.rows)

abbrev pub decreases-loop-rest : goal.decreases-loop-rest
decreases-loop-rest l = length l.rest
