use Rattle.shaping_buffer.proofs.ClosedKeepsLemmas.{keeps_with_input}
use Rattle.ot_positions.specs.ClusterFlags.{shared}
use Rattle.ot_positions.proofs.ClusterFlagsLemmas.{clusters-by_clusters, cluster-shared, with_input-by_clusters}
use Rattle.ot_positions.proofs.cluster_flags.share_in.Goals as goal

pub returns-clause-is : goal.returns-clause-is
returns-clause-is c =
    with_input-by_clusters shared cluster-shared c.args.buffer.now c.share_all.new.infos c.info_slice_mut.result.now
    c.info_slice_mut.ensures.value c.share_all.ensures

pub returns-clause-keeps : goal.returns-clause-keeps
returns-clause-keeps c =
    keeps_with_input c.args.buffer.now c.share_all.new.infos c.info_slice_mut.result.now c.info_slice_mut.ensures.value
    (clusters-by_clusters shared cluster-shared c.share_all.new.infos c.info_slice_mut.result.now c.share_all.ensures)
