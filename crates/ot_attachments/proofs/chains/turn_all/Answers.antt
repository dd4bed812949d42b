use Rattle.std.proofs.Common.{◌≡◌, ◌+◌, ◌-◌, suc, length, refl, sym, ap, ◌∙◌, arith}
use Rattle.ot_attachments.specs.Chains.{links_turned}
use Rattle.ot_attachments.proofs.chains.turn_all.Goals as goal

pub loop-turn-init : goal.loop-turn-init
loop-turn-init c =
    let all : length c.args.positions.now - 0 ≡ length c.args.positions.now = omega arith in
    record {
      same = ap (λ steps. links_turned steps c.args.is_horizontal c.args.parent c.args.first.now c.args.positions.now) all;
      as_many = refl;
    }

pub loop-turn-preserved : goal.loop-turn-preserved
loop-turn-preserved c =
    let left : suc (length c.args.positions.now - (c.loop-turn._turn + 1)) ≡ length c.args.positions.now - c.loop-turn._turn =
    omega (arith, c.loop-turn-test.true) in
    record {
      same =
          sym (c.in-Some.ensures.is (length c.args.positions.now - (c.loop-turn._turn + 1)))
          ∙ ap (λ steps. links_turned steps c.args.is_horizontal c.args.parent c.loop-turn.link c.loop-turn.positions) left
          ∙ c.loop-turn.invariant.same;
      as_many = c.in-Some.ensures.as_many ∙ c.loop-turn.invariant.as_many;
    }
