use Rattle.font_tables.specs.Bytes.{number_16, is_number}
use Rattle.font_tables.proofs.RowLemmas.{NoneBelow}
use Rattle.std.proofs.Common.{◌+◌, ◌*◌}
use Rattle.font_variations.proofs.feature_variations.record_of.Given as goal

-- the records so far are not for the feature
abbrev pub invariant-loop-row : goal.invariant-loop-row
invariant-loop-row l = NoneBelow (λ row. is_number (number_16 l.substitutions (6 + 6 * row)) l.feature) l.row
