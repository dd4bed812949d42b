use Rattle.std.proofs.Common.{◌≡◌, ◌-◌, ◌++◌, length, take, drop}
use Rattle.ot_positions.specs.ClusterFlags.{by_clusters, shared}
use Rattle.ot_positions.proofs.cluster_flags.share_all.Given as goal

-- what is left becomes what it is to become, behind what has
abbrev pub invariant-loop-start : goal.invariant-loop-start
invariant-loop-start l = take l.start l.infos ++ by_clusters shared (drop l.start l.infos) ≡ by_clusters shared l.fn.infos

abbrev pub decreases-loop-start : goal.decreases-loop-start
decreases-loop-start l = length l.initial.infos - l.start
