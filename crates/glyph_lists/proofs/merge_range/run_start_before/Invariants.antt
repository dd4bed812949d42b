use Rattle.std.proofs.Common.{◌≡◌, ◌≤◌, ◌+◌, ◌-◌}
use Rattle.glyph_lists.specs.Clusters.{run_start}
use Rattle.glyph_lists.specs.ClusterReads.{both_clusters, SameLists}
use Rattle.glyph_lists.proofs.merge_range.run_start_before.Given as goal

abbrev pub invariant-loop-start : goal.invariant-loop-start
invariant-loop-start l =
    SameLists l.fn.reads l.reads × (l.start ≤ l.end)
    × (run_start (both_clusters l.fn.reads) l.cluster l.floor l.start
    ≡ run_start (both_clusters l.fn.reads) l.cluster l.floor l.end)
    × (l.reads.reads ≤ l.fn.reads.reads + (l.end - l.start))

abbrev pub decreases-loop-start : goal.decreases-loop-start
decreases-loop-start l = l.start
