use Rattle.std.proofs.Common.{◌<◌, ◌∙◌, List, ap, arith, length, rules, subst, sym}
use Rattle.ot_layout.specs.declared.budget.Budget.{Budget}
use Rattle.ot_layout.specs.declared.search.Search.{Search}
use Rattle.ot_lookups.specs.declared.subtable.Subtable.{Subtable}
use Rattle.ot_contexts.proofs.NextLemmas.{next_of_each}
use Rattle.ot_substitution.proofs.EditLemmas.{first_here, first_later, no_edit, uncovered_by}
use Rattle.ot_substitution.proofs.substitution.edit_at.Goals as goal
use Rattle.ot_substitution.proofs.substitution.edit_at.Goals.{then-may_be_for+else-not-pay+else-is_some, else-may_be_for}

pub loop-subtable-init : goal.loop-subtable-init
loop-subtable-init c = record {
  spent = (omega (arith, c.pay_for.ensures.spent.0), omega (arith, c.pay_for.ensures.spent.1));
  passed = λ some. let left = ap (λ (b : Budget). b.steps) c.pay_for.ensures.left in omega (arith, some, left);
  first = λ some places edit rest. rest;
}

pub loop-subtable-preserved : goal.loop-subtable-preserved
loop-subtable-preserved c =
    let next = first_later c.args.list.now.coverages.items c.args.options.now c.args.ctx.now c.args.is_nested c.subtables_of-subtables.result.now
    c.loop-subtable.subtable-index c.subtable-item.result in
    elim c.if-may_be_for.branch [
      | then-may_be_for+else-not-pay+else-is_some w ↦ record {
        spent = search rules;
        passed = λ some.
            let left = subst (λ (x : Search). 0 < x.budget.steps) w.search-is some in
            let now = ap (λ (x : Search). x.budget.steps) w.search-is in
            let before = c.loop-subtable.invariant.passed (omega (arith, left)) in
            omega (arith, now, left, before);
        first = λ some places edit rest.
            let left = subst (λ (x : Search). 0 < x.budget.steps) w.search-is some in
            let missed = sym w.is_some.ensures ∙ w.if-is_some.false in
            let none = no_edit _ _ _ _ _ _ _ (w.edit_of-edit.ensures.is left) missed in
            c.loop-subtable.invariant.first (omega (arith, left)) places edit
            (next places edit c.loop-subtable-test.true c.subtable-item.is none rest);
      }
      | else-may_be_for w ↦ record {
        spent = search rules;
        passed = λ some.
            let left = subst (λ (x : Search). 0 < x.budget.steps) w.search-is some in
            let now = ap (λ (x : Search). x.budget.steps) w.search-is in
            let before = c.loop-subtable.invariant.passed (omega (arith, left)) in
            omega (arith, now, left, before);
        first = λ some places edit rest.
            let left = subst (λ (x : Search). 0 < x.budget.steps) w.search-is some in
            let none = uncovered_by c.args.list.now.coverages.items c.args.options.now c.args.ctx.now c.args.is_nested c.subtable-item.result
            (λ has. let may = c.may_be_for.ensures has in let not = w.if-may_be_for.false in cc) in
            c.loop-subtable.invariant.first left places edit
            (next places edit c.loop-subtable-test.true c.subtable-item.is none rest);
      }
    ]

pub returns-then-is_some-clause-first : goal.returns-then-is_some-clause-first
returns-then-is_some-clause-first c some =
    let has = sym c.is_some.ensures ∙ c.if-is_some.true in
    let first = c.loop-subtable.invariant.first (omega (arith, some)) _ c.edit_of-edit.result
    (first_here _ _ _ _ _ _ c.subtable-item.result _ _ c.loop-subtable-test.true c.subtable-item.is has (c.edit_of-edit.ensures.is some)) in
    rw c.subtables_of-subtables.ensures at first

pub edit_of-edit-requires-clause-next : goal.edit_of-edit-requires-clause-next
edit_of-edit-requires-clause-next c =
    next_of_each c.args.list.now.coverages.items c.args.list.now.subtables.items c.subtables_of-subtables.result.now
    c.args.lookup.now c.loop-subtable.subtable-index c.subtable-item.result c.subtables_of-subtables.ensures
    c.args.list.now.nexts c.loop-subtable-test.true c.subtable-item.is

pub returns-then-is_some-clause-passed : goal.returns-then-is_some-clause-passed
returns-then-is_some-clause-passed c = λ some.
    let before = c.loop-subtable.invariant.passed (omega (arith, some)) in
    let same = ap (λ (ts : List Subtable). length ts) c.subtables_of-subtables.ensures in
    omega (arith, some, before, same)

pub returns-clause-passed : goal.returns-clause-passed
returns-clause-passed c = λ some.
    let before = c.loop-subtable.invariant.passed some in
    let same = ap (λ (ts : List Subtable). length ts) c.subtables_of-subtables.ensures in
    omega (arith, before, same)
