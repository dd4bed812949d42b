use Rattle.std.proofs.Common.{◌≡◌, true}
use Rattle.font_variations.specs.FeatureVariations.{first_hold}
use Rattle.font_variations.proofs.feature_variations.first_hold.Given as goal

-- the conditions so far hold
abbrev pub invariant-loop-row : goal.invariant-loop-row
invariant-loop-row l = first_hold l.set l.coordinates l.row ≡ true
