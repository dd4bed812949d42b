use Rattle.font_tables.specs.Directory.{record_has}
use Rattle.font_tables.proofs.RowLemmas.{NoneBelow}
use Rattle.font_tables.proofs.directory.first_record.Given as goal

-- the records so far have other tags
abbrev pub invariant-loop-row : goal.invariant-loop-row
invariant-loop-row l = NoneBelow (record_has l.file l.directory l.tag.0) l.row
