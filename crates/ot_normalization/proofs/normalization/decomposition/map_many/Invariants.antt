use Rattle.std.proofs.Common.{◌≡◌}
use Rattle.shaping_buffer.specs.Clusters.{clusters}
use Rattle.ot_normalization.proofs.normalization.decomposition.map_many.Given as goal

abbrev pub invariant-loop-i : goal.invariant-loop-i
invariant-loop-i g l = clusters l.infos ≡ clusters l.fn.infos
