use Rattle.std.proofs.Common.{◌≡◌, ◌<◌, ◌≤◌, length}
use Rattle.glyph_lists.specs.Parts.{map_range}
use Rattle.glyph_lists.specs.Clusters.{clusters}
use Rattle.glyph_lists.specs.Marks.{with_glyph_flags}
use Rattle.glyph_lists.proofs.ScanEndsLemmas.{last_before}
use Rattle.glyph_lists.proofs.glyph_flags.mark_after_last.Given as goal

abbrev pub invariant-loop-start : goal.invariant-loop-start
invariant-loop-start l = record {
  some : 0 < l.start;
  within : l.start ≤ length l.fn.info;
  marked : l.info ≡ map_range (with_glyph_flags l.bits) l.fn.info l.start (length l.fn.info);
  same : last_before l.cluster (clusters l.fn.info) l.start
      ≡ last_before l.cluster (clusters l.fn.info) (length l.fn.info);
}

abbrev pub decreases-loop-start : goal.decreases-loop-start
decreases-loop-start l = l.start
