use Rattle.std.proofs.Common.{length, ◌-◌}
use Rattle.glyph_lists.specs.Groups.{share_cluster}
use Rattle.shaping_uses.proofs.GroupsLemmas.{IsCounted}
use Rattle.shaping_uses.proofs.groups.count_clusters.Given as goal

-- the clusters before `start` are counted
abbrev pub invariant-loop-start : goal.invariant-loop-start
invariant-loop-start l = IsCounted share_cluster l.buffer.input l.start l.count

abbrev pub decreases-loop-start : goal.decreases-loop-start
decreases-loop-start l = length l.buffer.input - l.start
