use Rattle.std.proofs.Common.{length}
use Rattle.ot_map.proofs.choice.+first_of.Given as goal

abbrev pub decreases-first_of : goal.decreases-first_of
decreases-first_of l = length l.tags.now
