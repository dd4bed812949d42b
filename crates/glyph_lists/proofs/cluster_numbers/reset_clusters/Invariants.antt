use Rattle.std.proofs.Common.{◌≡◌, ◌++◌, take, drop}
use Rattle.glyph_lists.specs.ClusterNumbers.{reset_clusters}
use Rattle.glyph_lists.proofs.cluster_numbers.reset_clusters.Given as goal

abbrev pub invariant-loop-i : goal.invariant-loop-i
invariant-loop-i l = l.info ≡ reset_clusters 0 (take l.i l.fn.info) ++ drop l.i l.fn.info
