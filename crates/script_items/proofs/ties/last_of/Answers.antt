use Rattle.std.proofs.Common.{refl, sym, ap, ◌∙◌, arith}
use Rattle.script_items.specs.declared.ties.Tie.{Tie}
use Rattle.script_items.specs.Ties.{is_same}
use Rattle.script_items.proofs.TiesLemmas.{last_of-found, last_of-more, last_of-none}
use Rattle.script_items.proofs.ties.last_of.Goals as goal

pub loop-end-init : goal.loop-end-init
loop-end-init g c = record { within = omega arith; is = λ tie says. refl }

pub loop-end-preserved : goal.loop-end-preserved
loop-end-preserved g c = record {
  within = omega arith;
  is = λ tie says.
      last_of-more tie c.args.wanted c.args.start c.loop-end.end (omega arith)
      (sym (c.is_same.ensures ∙ ap (λ (t : Tie). is_same t c.args.wanted) (says _ _ c.tie_at.ensures)) ∙ c.if-is_same.false)
      ∙ c.loop-end.invariant.is tie says;
}

pub returns-then-is_same-clause-is : goal.returns-then-is_same-clause-is
returns-then-is_same-clause-is g c = λ tie says.
    sym (last_of-found tie c.args.wanted c.args.start c.loop-end.end (omega arith)
    (sym (c.is_same.ensures ∙ ap (λ (t : Tie). is_same t c.args.wanted) (says _ _ c.tie_at.ensures)) ∙ c.if-is_same.true))
    ∙ c.loop-end.invariant.is tie says

pub returns-clause-is : goal.returns-clause-is
returns-clause-is g c = λ tie says.
    sym (last_of-none tie c.args.wanted c.args.start c.loop-end.end (omega arith)) ∙ c.loop-end.invariant.is tie says
