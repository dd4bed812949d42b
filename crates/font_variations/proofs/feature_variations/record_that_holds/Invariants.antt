use Rattle.font_tables.proofs.RowLemmas.{NoneBelow}
use Rattle.font_variations.specs.FeatureVariations.{record_holds}
use Rattle.font_variations.proofs.feature_variations.record_that_holds.Given as goal

-- the records so far are not the one
abbrev pub invariant-loop-row : goal.invariant-loop-row
invariant-loop-row l = NoneBelow (record_holds l.variations l.coordinates) l.row
