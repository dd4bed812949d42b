use Rattle.std.proofs.Common.{◌≡◌, ◌+◌, ◌-◌}
use Rattle.glyph_lists.specs.Clusters.{range_least}
use Rattle.glyph_lists.specs.ClusterReads.{both_clusters, SameLists}
use Rattle.glyph_lists.proofs.merge_range.least_cluster.Given as goal

abbrev pub invariant-loop-i : goal.invariant-loop-i
invariant-loop-i l =
    SameLists l.fn.reads l.reads × (l.least ≡ range_least (both_clusters l.fn.reads) l.start l.i)
    × (l.reads.reads ≡ l.fn.reads.reads + (l.i - (l.start + 1)))
