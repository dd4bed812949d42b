use Rattle.std.proofs.Common.{◌∙◌, arith}
use Rattle.ot_positions.specs.ClusterFlags.{propagated}
use Rattle.ot_positions.proofs.ClusterFlagsLemmas.{by_clusters_all, by_clusters_more}
use Rattle.ot_positions.proofs.cluster_flags.propagate_all.Goals as goal

pub loop-start-preserved : goal.loop-start-preserved
loop-start-preserved c =
    by_clusters_more (propagated c.args.flags) c.loop-start.infos c.propagate_from.new.infos c.loop-start.start c.cluster_end-end.result
    (omega (arith, c.loop-start-test.true)) c.cluster_end-end.ensures.is c.propagate_from.ensures ∙ c.loop-start.invariant

pub returns : goal.returns
returns c = by_clusters_all (propagated c.args.flags) c.loop-start.infos c.args.infos.now c.loop-start.start (omega (arith, c.loop-start-test.false)) c.loop-start.invariant
