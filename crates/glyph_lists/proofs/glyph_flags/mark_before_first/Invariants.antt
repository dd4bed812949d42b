use Rattle.std.proofs.Common.{◌≡◌, ◌<◌, ◌-◌, length}
use Rattle.glyph_lists.specs.Parts.{map_range}
use Rattle.glyph_lists.specs.Clusters.{clusters}
use Rattle.glyph_lists.specs.Marks.{with_glyph_flags}
use Rattle.glyph_lists.proofs.ScanEndsLemmas.{first_from}
use Rattle.glyph_lists.proofs.glyph_flags.mark_before_first.Given as goal

abbrev pub invariant-loop-end : goal.invariant-loop-end
invariant-loop-end l = record {
  within : l.end < length l.fn.info;
  marked : l.info ≡ map_range (with_glyph_flags l.bits) l.fn.info 0 l.end;
  same : first_from l.cluster (clusters l.fn.info) l.end ≡ first_from l.cluster (clusters l.fn.info) 0;
}

abbrev pub decreases-loop-end : goal.decreases-loop-end
decreases-loop-end l = length l.fn.info - l.end
