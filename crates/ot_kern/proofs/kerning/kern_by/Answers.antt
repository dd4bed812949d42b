use Rattle.std.proofs.Common.{◌≡◌, ◌+◌, ◌-◌, ◌≤◌, suc, length, sym, ap, ◌∙◌, None, arith}
use Rattle.ot_kern.specs.Kerning.{line_kerned, machine_of, walked}
use Rattle.ot_attachments.proofs.KeptLemmas.{kept_none, kept_then}
use Rattle.ot_kern.proofs.KerningLemmas.{len_closed, walked_end, walked_none}
use Rattle.ot_kern.proofs.kerning.kern_by.Goals as goal

pub loop-step-init : goal.loop-step-init
loop-step-init c =
    let all : c.len-len.result - 0 ≡ length c.args.buffer.now.input =
    omega (arith, c.len-len.ensures.len, len_closed c.args.buffer.now c.requires.placed.closed) in
    record {
      same = ap (λ steps. walked steps (machine_of c.args.machine.now) 0 None c.args.buffer.now) all;
      kept = kept_none _ c.requires.placed;
    }

pub loop-step-preserved : goal.loop-step-preserved
loop-step-preserved c =
    let left : suc (c.len-len.result - (c.loop-step._step + 1)) ≡ c.len-len.result - c.loop-step._step =
    omega (arith, c.loop-step-test.true) in
    record {
      same =
          sym (c.kern_at-turn.ensures.is (c.len-len.result - (c.loop-step._step + 1)))
          ∙ ap (λ steps. walked steps (machine_of c.args.machine.now) c.loop-step.turn c.loop-step.across c.loop-step.buffer) left
          ∙ c.loop-step.invariant.same;
      kept = kept_then _ _ _ c.loop-step.invariant.kept c.kern_at-turn.ensures.kept;
    }

pub returns-then-turn-len-clause-is : goal.returns-then-turn-len-clause-is
unfolding line_kerned
returns-then-turn-len-clause-is c =
    let behind : length c.loop-step.buffer.input ≤ c.loop-step.turn =
    omega (arith, c.if-turn-len.true, c.len.ensures.len, len_closed c.loop-step.buffer c.loop-step.invariant.kept.placed.closed) in
    c.mark_rest.ensures.is
    ∙ sym (walked_end (c.len-len.result - c.loop-step._step) (machine_of c.args.machine.now) c.loop-step.turn c.loop-step.across
    c.loop-step.buffer behind) ∙ c.loop-step.invariant.same

pub returns-clause-is : goal.returns-clause-is
unfolding line_kerned
returns-clause-is c =
    let none : c.len-len.result - c.loop-step._step ≡ 0 = omega (arith, c.loop-step-test.false) in
    c.mark_rest-2.ensures.is
    ∙ sym (walked_none (c.len-len.result - c.loop-step._step) (machine_of c.args.machine.now) c.loop-step.turn c.loop-step.across
    c.loop-step.buffer none) ∙ c.loop-step.invariant.same
