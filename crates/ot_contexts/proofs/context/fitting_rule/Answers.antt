use Rattle.std.proofs.Common.{◌≡◌, ◌∙◌, Some, ap, sym}
use Rattle.ot_lookups.specs.SubtableKinds.{as_context}
use Rattle.ot_lookups.specs.declared.subtable_kind.ContextFormat.TheVariants.{Coverages}
use Rattle.ot_contexts.proofs.ContextLemmas.{context_rule-covered, fits_by, is_some-fitting}
use Rattle.ot_contexts.proofs.context.fitting_rule.Goals as goal

pub returns-in-Coverages-clause-rule : goal.returns-in-Coverages-clause-rule
returns-in-Coverages-clause-rule c =
    let is : as_context c.args.subtable.now.kind ≡ Some Coverages =
    sym c.as_context.ensures ∙ c.in_ok-as_context.was ∙ ap (λ f. Some f) c.in-Coverages.is in
    rw (context_rule-covered c.args.list.now.coverages.items c.args.subtable.now c.args.index c.args.ctx.now is)
    (fits_by c.args.ctx.now _ _ _ c.covered_fit.ensures.rule)

pub returns-in-Coverages-clause-exact : goal.returns-in-Coverages-clause-exact
returns-in-Coverages-clause-exact c next some =
    let is : as_context c.args.subtable.now.kind ≡ Some Coverages =
    sym c.as_context.ensures ∙ c.in_ok-as_context.was ∙ ap (λ f. Some f) c.in-Coverages.is in
    rw (context_rule-covered c.args.list.now.coverages.items c.args.subtable.now c.args.index c.args.ctx.now is)
    (c.covered_fit.ensures.exact next some ∙ sym (is_some-fitting c.args.ctx.now _))
