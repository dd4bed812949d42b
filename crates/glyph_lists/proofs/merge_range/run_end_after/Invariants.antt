use Rattle.std.proofs.Common.{◌≡◌, ◌≤◌, ◌+◌, ◌-◌, length}
use Rattle.glyph_lists.specs.Clusters.{run_end}
use Rattle.glyph_lists.specs.ClusterReads.{both_clusters, SameLists}
use Rattle.glyph_lists.proofs.merge_range.run_end_after.Given as goal

abbrev pub invariant-loop-end : goal.invariant-loop-end
invariant-loop-end l =
    SameLists l.fn.reads l.reads × (l.start ≤ l.end) × (l.end ≤ length (both_clusters l.fn.reads))
    × (run_end (both_clusters l.fn.reads) l.cluster l.end ≡ run_end (both_clusters l.fn.reads) l.cluster l.start)
    × (l.reads.reads ≤ l.fn.reads.reads + (l.end - l.start))

abbrev pub decreases-loop-end : goal.decreases-loop-end
decreases-loop-end l = l.len - l.end
