use Rattle.std.proofs.Common.{ap, sym, subst, ◌∙◌}
use Rattle.glyph_lists.specs.Clusters.{clusters}
use Rattle.shaping_buffer.specs.ClusterStep.{both}
use Rattle.shaping_buffer.specs.GroupStep.{reverse}
use Rattle.ot_apply.specs.declared.cluster_order.ClusterCourse.{ClusterCourse}
use Rattle.ot_apply.specs.ClusterOrder.{Takes, put_in_order, raised}
use Rattle.ot_apply.proofs.StageLemmas.{turned_back}
use Rattle.ot_apply.proofs.cluster_order.ClusterCourse.restore.Goals as goal

pub returns-in-Falling-clause-runs : goal.returns-in-Falling-clause-runs
returns-in-Falling-clause-runs c = λ any.
    let s = c.args.buffer.now in
    let t = c.reverse.new.self in
    let u = c.raise-in-Falling.new.buffer in
    let v = c.reverse-in-Falling.new.self in
    subst (λ (course : ClusterCourse). Takes course (clusters (both v))) (sym c.in-Falling.is)
    (turned_back s t u v c.reverse.ensures.turns c.raise-in-Falling.ensures.numbers c.raise-in-Falling.ensures.rises
    c.reverse-in-Falling.ensures.turns any)

pub returns-in-Rising-clause-is : goal.returns-in-Rising-clause-is
returns-in-Rising-clause-is c =
    c.raise.ensures.is ∙ ap (λ (course : ClusterCourse). put_in_order course c.args.buffer.now) (sym c.in-Rising.is)

pub returns-in-Falling-clause-is : goal.returns-in-Falling-clause-is
returns-in-Falling-clause-is c =
    c.reverse-in-Falling.ensures.is ∙ ap reverse (c.raise-in-Falling.ensures.is ∙ ap raised c.reverse.ensures.is)
    ∙ ap (λ (course : ClusterCourse). put_in_order course c.args.buffer.now) (sym c.in-Falling.is)

pub returns-in-Neither-clause-is : goal.returns-in-Neither-clause-is
returns-in-Neither-clause-is c =
    ap (λ (course : ClusterCourse). put_in_order course c.args.buffer.now) (sym c.in-Neither.is)
