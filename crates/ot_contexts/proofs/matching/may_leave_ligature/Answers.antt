use Rattle.std.proofs.Common.{◌≡◌, ◌+◌, ◌-◌, ◌∙◌, sym, length, arith, rules}
use Rattle.ot_contexts.proofs.MatchLemmas.{is_hidden_before-mark}
use Rattle.ot_contexts.proofs.matching.may_leave_ligature.Goals as goal

pub loop-turn-preserved : goal.loop-turn-preserved
loop-turn-preserved c =
    let n = length c.args.ctx.now.out.now in
    let e : n - c.loop-turn.turn ≡ n - (c.loop-turn.turn + 1) + 1 = omega arith in
    let same = sym c.ligature_id.ensures ∙ c.if-ligature_id-id.false ∙ c.ligature_id-id.ensures in (
      search rules,
      c.loop-turn.invariant.1 ∙ is_hidden_before-mark _ _ _ _ _ e same
          (λ is. c.if-ligature_component-eq0-2.false (c.ligature_component-in-loop-turn.ensures ∙ is)),
    )
