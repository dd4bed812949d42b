use Rattle.std.proofs.Common.{◌≡◌, length}
use Rattle.ot_tags.specs.Subtags.{has_subtag}
use Rattle.ot_tags.proofs.subtags.has_subtag.Given as goal

-- what is left has the subtag where all have it
abbrev pub invariant-loop-rest : goal.invariant-loop-rest
invariant-loop-rest l = has_subtag l.rest l.subtag ≡ has_subtag l.subtags l.subtag

abbrev pub decreases-loop-rest : goal.decreases-loop-rest
decreases-loop-rest l = length l.rest
