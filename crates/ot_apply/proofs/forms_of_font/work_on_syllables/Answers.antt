use Rattle.std.proofs.Common.{sym, ◌∙◌}
use Rattle.std.proofs.lemmas.Bool.{false≢true}
use Rattle.ot_apply.specs.ClusterOrder.{KeepsStage}
use Rattle.ot_apply.proofs.StageLemmas.{stage_then, stage_of_keeps}
use Rattle.ot_apply.proofs.forms_of_font.work_on_syllables.Goals as goal

-- where syllables are put in order their numbers are kept, and what is said of the budget keeps all clusters
pub returns-clause-keeps : goal.returns-clause-keeps
returns-clause-keeps g c =
    let orders = sym c.orders_syllables.ensures ∙ c.if-not-orders_syllables.false in
    let worked : KeepsStage c.args.plan.now.syllables c.args.buffer.now c.pause.new.buffer = record {
      numbers = c.pause.ensures.keeps;
      clusters = λ off. absurd (false≢true (sym off ∙ orders));
    } in
    stage_then c.args.plan.now.syllables c.args.buffer.now c.pause.new.buffer c.fail_if_spent.new.buffer worked
    (stage_of_keeps c.args.plan.now.syllables c.pause.new.buffer c.fail_if_spent.new.buffer c.fail_if_spent.ensures.keeps)
