use Rattle.font_cmap.specs.Choice.{is_record_of}
use Rattle.font_tables.proofs.RowLemmas.{NoneBelow}
use Rattle.font_cmap.proofs.choice.record_of.Given as goal

-- none of the records so far is the one
abbrev pub invariant-loop-row : goal.invariant-loop-row
invariant-loop-row l = NoneBelow (is_record_of l.cmap l.platform l.encoding) l.row
