use Rattle.std.proofs.Common.{◌≡◌, sym, ap, ◌∙◌, arith}
use Rattle.script_items.specs.declared.ties.Tie.{Tie}
use Rattle.script_items.specs.Ties.{first_of, is_same}
use Rattle.script_items.proofs.TiesLemmas.{first_of-found, first_of-more, first_of-none}
use Rattle.script_items.proofs.ties.first_of.Goals as goal

pub loop-place-init : goal.loop-place-init
loop-place-init g c = λ tie says. first_of-none tie c.args.wanted

pub loop-place-preserved : goal.loop-place-preserved
loop-place-preserved g c = λ tie says.
    first_of-more tie c.args.wanted c.loop-place.place (c.loop-place.invariant tie says)
    (sym (c.is_same.ensures ∙ ap (λ (t : Tie). is_same t c.args.wanted) (says _ _ c.tie_at.ensures)) ∙ c.if-is_same.false)

pub returns-then-is_same-clause-is : goal.returns-then-is_same-clause-is
returns-then-is_same-clause-is g c = λ tie says.
    sym (first_of-found tie c.args.wanted c.loop-place.place c.args.end (omega arith) (c.loop-place.invariant tie says)
    (sym (c.is_same.ensures ∙ ap (λ (t : Tie). is_same t c.args.wanted) (says _ _ c.tie_at.ensures)) ∙ c.if-is_same.true))

pub returns-clause-is : goal.returns-clause-is
returns-clause-is g c = λ tie says.
    let all : c.args.end ≡ c.loop-place.place = omega arith in
    sym (ap (first_of tie c.args.wanted) all ∙ c.loop-place.invariant tie says)
