use Rattle.std.proofs.Common.{◌≡◌, ◌<◌, Bool, true, Ok, ap, arith, ◌∙◌}
use Rattle.shaping_buffer.proofs.KeepsLemmas.{keeps_none, keeps_then}
use Rattle.ot_gsub.specs.Nested.{now_of}
use Rattle.ot_apply.proofs.RunLemmas.{runs_next, runs_none}
use Rattle.ot_apply.proofs.substitution.apply_stage.Goals as goal

pub loop-planned-init : goal.loop-planned-init
loop-planned-init g c = record {
  closed = c.requires.closed;
  keeps = keeps_none c.args.buffer.now;
  spent = (omega arith, omega arith);
  seen = c.requires.seen;
  rest = λ steps new done. done;
}

pub loop-planned-preserved : goal.loop-planned-preserved
loop-planned-preserved g c =
    let b = c.loop-planned.buffer in
    let p = c.loop-planned.progress in
    let new = c.apply_planned.new.buffer in
    let q = c.apply_planned.new.progress in
    let was : c.apply_planned.result ≡ Ok true = c.in_ok-apply_planned.was ∙ ap (λ (d : Bool). Ok d) c.if-not-branch.false in
    record {
      closed = c.in_ok-apply_planned.ensures.closed c.if-not-branch.false;
      keeps = keeps_then c.args.buffer.now b new c.loop-planned.invariant.keeps c.apply_planned.ensures.keeps;
      spent = (
        omega (arith, c.loop-planned.invariant.spent.0, c.apply_planned.ensures.spent.0),
        omega (arith, c.loop-planned.invariant.spent.1, c.apply_planned.ensures.spent.1),
      );
      seen = c.apply_planned.ensures.seen was;
      rest = λ steps end done.
          let before : 0 < p.search.budget.steps = omega (arith, steps, c.apply_planned.ensures.spent.1) in
          c.loop-planned.invariant.rest before end
          (runs_next c.args.face.now c.args.lookups.now c.loop-planned.planned-index _ (now_of b p) (now_of new q) end
          c.loop-planned-test.true (c.apply_planned.ensures.run was steps) done);
    }

pub returns-clause-runs : goal.returns-clause-runs
returns-clause-runs g c = λ is steps.
    let last = now_of c.loop-planned.buffer c.loop-planned.progress in
    c.loop-planned.invariant.rest steps last
    (runs_none c.args.face.now c.args.lookups.now c.loop-planned.planned-index last c.loop-planned-test.false)
