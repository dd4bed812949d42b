use Rattle.shaping_buffer.proofs.ClosedKeepsLemmas.{keeps_with_input}
use Rattle.ot_positions.specs.ClusterFlags.{propagated}
use Rattle.ot_positions.proofs.ClusterFlagsLemmas.{clusters-by_clusters, cluster-propagated, with_input-by_clusters}
use Rattle.ot_positions.proofs.cluster_flags.propagate_in.Goals as goal

pub returns-clause-is : goal.returns-clause-is
returns-clause-is c =
    with_input-by_clusters (propagated c.args.flags) (cluster-propagated c.args.flags) c.args.buffer.now c.propagate_all.new.infos c.info_slice_mut.result.now
    c.info_slice_mut.ensures.value c.propagate_all.ensures

pub returns-clause-keeps : goal.returns-clause-keeps
returns-clause-keeps c =
    keeps_with_input c.args.buffer.now c.propagate_all.new.infos c.info_slice_mut.result.now c.info_slice_mut.ensures.value
    (clusters-by_clusters (propagated c.args.flags) (cluster-propagated c.args.flags) c.propagate_all.new.infos c.info_slice_mut.result.now c.propagate_all.ensures)
