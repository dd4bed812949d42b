use Rattle.std.proofs.Common.{◌≡◌, ◌+◌, ◌-◌, length, drop, ap, ◌∙◌, arith}
use Rattle.std.proofs.Common.{length-drop}
use Rattle.std.proofs.lemmas.List.{take_all}
use Rattle.ot_positions.specs.ClusterFlags.{len_in}
use Rattle.ot_positions.proofs.ClusterFlagsLemmas.{first_len_at}
use Rattle.ot_positions.proofs.cluster_flags.cluster_end.Goals as goal

pub returns-clause-is : goal.returns-clause-is
returns-clause-is c =
    let rest = drop (c.args.start + 1) c.args.infos.now in
    let long : length rest ≡ length c.args.infos.now - (c.args.start + 1) = length-drop (c.args.start + 1) c.args.infos.now in
    first_len_at c.args.infos.now c.args.start c.len_of_cluster.result c.cluster_at-cluster.result c.requires c.cluster_at-cluster.ensures
    (c.len_of_cluster.ensures.is
    ∙ ap (len_in c.cluster_at-cluster.result) (take_all (length c.args.infos.now - (c.args.start + 1)) rest (omega (arith, long))))
