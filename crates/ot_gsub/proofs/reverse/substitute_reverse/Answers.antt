use Rattle.std.proofs.Common.{◌≡◌, ◌+◌, ◌-◌, ◌<◌, arith, length, subst, ◌∙◌}
use Rattle.shaping_buffer.proofs.KeepsLemmas.{keeps_none, keeps_then}
use Rattle.ot_gsub.specs.Nested.{now_of}
use Rattle.ot_gsub.specs.Runs.{AreDoneBackward}
use Rattle.ot_gsub.proofs.ChangesLemmas.{tells_none, tells_then}
use Rattle.ot_gsub.proofs.RunsLemmas.{backward_ended, backward_next}
use Rattle.ot_gsub.proofs.SinglesLemmas.{len_closed}
use Rattle.ot_gsub.proofs.reverse.substitute_reverse.Goals as goal

pub loop-turn-init : goal.loop-turn-init
loop-turn-init c =
    let s = c.args.buffer.now in
    let all : length s.input - 0 ≡ length s.input = omega arith in
    record {
      closed = c.requires;
      keeps = keeps_none s;
      spent = (omega arith, omega arith);
      tells = tells_none s c.args.progress.now.has_changed;
      rest = λ steps new done.
          subst (λ k. AreDoneBackward c.args.substitutions.now c.args.lookup.now k (now_of s c.args.progress.now) new) all done;
    }

pub loop-turn-preserved : goal.loop-turn-preserved
loop-turn-preserved c =
    let s = c.args.buffer.now in
    let b = c.loop-turn.buffer in
    let new = c.substitute_one.new.buffer in
    let t = c.loop-turn.turn in
    let count : c.len-count.result ≡ length s.input = c.len-count.ensures.len ∙ len_closed s c.requires in
    let left : t < length s.input = omega (arith, c.loop-turn-test.true, count) in
    record {
      closed = c.substitute_one.ensures.closed;
      keeps = keeps_then s b new c.loop-turn.invariant.keeps c.substitute_one.ensures.keeps;
      spent = (
        omega (arith, c.loop-turn.invariant.spent.0, c.substitute_one.ensures.spent.0),
        omega (arith, c.loop-turn.invariant.spent.1, c.substitute_one.ensures.spent.1),
      );
      tells = tells_then s b new c.args.progress.now.has_changed c.loop-turn.progress.has_changed
          c.substitute_one.new.progress.has_changed c.loop-turn.invariant.tells c.substitute_one.ensures.tells;
      rest = λ steps end done.
          let before : 0 < c.loop-turn.progress.search.budget.steps = omega (arith, steps, c.substitute_one.ensures.spent.1) in
          let place : c.len-count.result - 1 - t ≡ length s.input - (t + 1) = omega (arith, count, left) in
          c.loop-turn.invariant.rest before end
          (backward_next c.args.substitutions.now c.args.lookup.now (now_of b c.loop-turn.progress) (length s.input - (t + 1))
          (c.len-count.result - 1 - t) (length s.input - t) (now_of new c.substitute_one.new.progress) end place
          (omega (arith, left))
          (c.substitute_one.ensures.done steps) done);
    }

pub returns-clause-run : goal.returns-clause-run
returns-clause-run c = λ steps.
    let s = c.args.buffer.now in
    let count : c.len-count.result ≡ length s.input = c.len-count.ensures.len ∙ len_closed s c.requires in
    c.loop-turn.invariant.rest steps _
    (backward_ended c.args.substitutions.now c.args.lookup.now (now_of c.loop-turn.buffer c.loop-turn.progress)
    (length s.input - c.loop-turn.turn) (omega (arith, c.loop-turn-test.false, count)))

pub returns-clause-tells : goal.returns-clause-tells
returns-clause-tells c = c.loop-turn.invariant.tells
