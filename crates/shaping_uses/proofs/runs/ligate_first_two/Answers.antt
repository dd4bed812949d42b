use Rattle.std.proofs.Common.{◌≡◌, true, subst, refl}
use Rattle.glyph_lists.specs.Clusters.{clusters, occurs}
use Rattle.shaping_buffer.specs.State.{State}
use Rattle.shaping_buffer.specs.ClusterStep.{both}
use Rattle.shaping_uses.specs.Runs.{ligature_calls}
use Rattle.shaping_uses.proofs.runs.ligate_first_two.Goals as goal

pub returns-clause-clusters : goal.returns-clause-clusters
returns-clause-clusters c = λ n new.
    let P : State → Type 0 = λ s. occurs n (clusters (both s)) ≡ true in
    c.no_cluster_is_new.ensures.calls (ligature_calls c.args.ligature) c.args.buffer.now (refl, (refl, (refl, tt))) n
    (subst P c.in_ok-replay.ensures.state new)
