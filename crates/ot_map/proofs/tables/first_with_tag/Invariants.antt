use Rattle.font_tables.specs.Bytes.{is_number}
use Rattle.font_tables.proofs.RowLemmas.{NoneBelow}
use Rattle.ot_map.specs.Tables.{record_tag}
use Rattle.ot_map.proofs.tables.first_with_tag.Given as goal

-- the records so far have other tags
abbrev pub invariant-loop-row : goal.invariant-loop-row
invariant-loop-row l = NoneBelow (λ row. is_number (record_tag l.list l.at row) l.tag.0) l.row
