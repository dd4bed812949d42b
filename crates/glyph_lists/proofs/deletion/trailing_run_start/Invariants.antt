use Rattle.std.proofs.Common.{◌≡◌, ◌≤◌, length}
use Rattle.glyph_lists.specs.Clusters.{clusters, run_start}
use Rattle.glyph_lists.proofs.deletion.trailing_run_start.Given as goal

abbrev pub invariant-loop-start : goal.invariant-loop-start
invariant-loop-start l = record {
  within : l.start ≤ length l.info;
  same : run_start (clusters l.info) l.cluster 0 l.start ≡ run_start (clusters l.info) l.cluster 0 (length l.info);
}

abbrev pub decreases-loop-start : goal.decreases-loop-start
decreases-loop-start l = l.start
