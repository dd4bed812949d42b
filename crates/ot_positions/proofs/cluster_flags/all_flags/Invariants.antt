use Rattle.std.proofs.Common.{◌≡◌, take}
use Rattle.ot_positions.specs.ClusterFlags.{flags_of}
use Rattle.ot_positions.proofs.cluster_flags.all_flags.Given as goal

abbrev pub invariant-loop-info : goal.invariant-loop-info
invariant-loop-info l = l.all ≡ flags_of (take l.info-index l.infos)
