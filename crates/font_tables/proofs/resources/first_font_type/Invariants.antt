use Rattle.font_tables.specs.Resources.{is_font_type}
use Rattle.font_tables.proofs.RowLemmas.{NoneBelow}
use Rattle.font_tables.proofs.resources.first_font_type.Given as goal

-- the types so far are others
abbrev pub invariant-loop-row : goal.invariant-loop-row
invariant-loop-row l = NoneBelow (is_font_type l.file l.types) l.row
