use Rattle.std.proofs.Common.{◌≡◌, Bool, true, Ok, ap, pos, subst, sym, ◌∙◌}
use Rattle.shaping_buffer.specs.State.{State}
use Rattle.shaping_buffer.proofs.KeepsLemmas.{keeps_then}
use Rattle.ot_layout.specs.declared.budget.Budget.{Budget}
use Rattle.ot_gsub.specs.Nested.{Now, now_of}
use Rattle.ot_apply.specs.declared.cluster_order.ClusterCourse.{ClusterCourse}
use Rattle.ot_apply.specs.ClusterOrder.{put_in_order}
use Rattle.ot_apply.specs.Stages.{IsPutInOrder}
use Rattle.ot_apply.proofs.RunLemmas.{steps_left}
use Rattle.ot_apply.proofs.StageLemmas.{stages_restored}
use Rattle.ot_apply.proofs.substitution.substitute.Goals as goal

pub returns-clause-keeps : goal.returns-clause-keeps
returns-clause-keeps g c = λ yes.
    keeps_then c.args.buffer.now c.restore.new.buffer c.fail_if_spent.new.buffer
    (stages_restored c.args.plan.now.syllables c.course_of_syllables-course.result c.args.buffer.now c.apply_stages.new.buffer
    c.restore.new.buffer c.course_of_syllables-course.ensures.ordered c.course_of_syllables-course.ensures.unordered
    c.apply_stages.ensures.keeps c.restore.ensures.is c.restore.ensures.numbers c.restore.ensures.runs)
    c.fail_if_spent.ensures.keeps

pub returns-clause-stages : goal.returns-clause-stages
returns-clause-stages g c = λ is none fine.
    let face = c.args.face.now in
    let plan = c.args.plan.now in
    let s = c.args.buffer.now in
    let p = c.new-progress.result in
    let t = c.apply_stages.new.buffer in
    let q = c.apply_stages.new.progress in
    let u = c.restore.new.buffer in
    let v = c.fail_if_spent.new.buffer in
    let was : c.apply_stages.result ≡ Ok true
    = c.in_ok-apply_stages.was ∙ ap (λ (d : Bool). Ok d) c.if-not-branch.false in
    let left = steps_left q.search.budget.steps v.shaping_failed c.fail_if_spent.ensures.says fine in
    let put : IsPutInOrder face plan (now_of s p) u = record {
      mid = now_of t q;
      stages = c.apply_stages.ensures.stages was left;
      ordered = λ on. record {
        course = c.course_of_syllables-course.result;
        was = c.course_of_syllables-course.ensures.ordered on;
        is = c.restore.ensures.is;
      };
      unordered = λ off. c.restore.ensures.is
          ∙ ap (λ (o : ClusterCourse). put_in_order o t) (c.course_of_syllables-course.ensures.unordered off);
    } in
    let first : Now = record { buffer = s; random = 1; left = p.search.budget.nested } in
    let same : now_of s p ≡ first = ap (λ k. record (now_of s p) { random = k }) c.new-progress.ensures.random in
    record {
      left = p.search.budget.nested;
      most = λ some. ap (λ (b : Budget). pos b.nested) c.new-progress.ensures.budget ∙ c.budget_of.ensures.nested some;
      done = subst (λ (n : Now). IsPutInOrder face plan n v) same
          (subst (λ (x : State). IsPutInOrder face plan (now_of s p) x) (sym (c.fail_if_spent.ensures.same left)) put);
    }
