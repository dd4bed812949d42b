use Rattle.std.proofs.Common.{◌≡◌, ◌-◌, length}
use Rattle.ot_layout.specs.Budget.{IsNotMore}
use Rattle.ot_layout.specs.LigatureParts.{ligature_id}
use Rattle.ot_contexts.specs.Match.{is_hidden_before}
use Rattle.ot_contexts.proofs.matching.may_leave_ligature.Given as goal

abbrev pub invariant-loop-turn : goal.invariant-loop-turn
invariant-loop-turn l =
    IsNotMore l.fn.budget l.budget
    × (is_hidden_before l.ctx.iterator.lookup_props (ligature_id l.first) l.ctx.out.now (length l.ctx.out.now)
    ≡ is_hidden_before l.ctx.iterator.lookup_props (ligature_id l.first) l.ctx.out.now (length l.ctx.out.now - l.turn))
