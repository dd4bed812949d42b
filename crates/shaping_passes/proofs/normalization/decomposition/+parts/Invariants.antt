use Rattle.std.proofs.Common.{◌+◌, ◌*◌}
use Rattle.shaping_passes.proofs.normalization.decomposition.+parts.Given as goal

abbrev pub decreases-add_parts : goal.decreases-add_parts
decreases-add_parts g l = 3 * l.steps + 2

abbrev pub decreases-add_both : goal.decreases-add_both
decreases-add_both g l = 3 * l.steps + 1

abbrev pub decreases-add_first : goal.decreases-add_first
decreases-add_first g l = 3 * l.steps
