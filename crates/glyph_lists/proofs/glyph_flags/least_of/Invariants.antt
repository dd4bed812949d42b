use Rattle.std.proofs.Common.{◌≡◌}
use Rattle.glyph_lists.specs.Clusters.{clusters, range_least}
use Rattle.glyph_lists.proofs.glyph_flags.least_of.Given as goal

abbrev pub invariant-loop-i : goal.invariant-loop-i
invariant-loop-i l = l.least ≡ range_least (clusters l.info) 0 l.i
