use Rattle.font_tables.proofs.RowLemmas.{NoneBelow}
use Rattle.font_variations.specs.ValueVariations.{is_for_tag}
use Rattle.font_variations.proofs.value_variations.record_of.Given as goal

-- the records so far are not the one
abbrev pub invariant-loop-row : goal.invariant-loop-row
invariant-loop-row l = NoneBelow (is_for_tag l.table l.tag.0) l.row
