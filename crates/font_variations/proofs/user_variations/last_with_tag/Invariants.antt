use Rattle.std.proofs.Common.{◌≡◌}
use Rattle.font_variations.specs.UserVariations.{chosen, last_below}
use Rattle.font_variations.proofs.user_variations.last_with_tag.Given as goal

-- the last value so far
abbrev pub invariant-loop-variation : goal.invariant-loop-variation
invariant-loop-variation l = l.found ≡ last_below (chosen l.variations l.tag.0) l.variation-index
