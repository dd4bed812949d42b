use Rattle.std.proofs.Common.{◌≡◌, ◌∙◌, ap, Some}
use Rattle.ot_contexts.specs.Asked.{asked_at}
use Rattle.ot_contexts.specs.declared.asked.Asked.TheVariants.{Input, Lookahead}
use Rattle.ot_contexts.proofs.AskedLemmas.{if_some-more, rule_fits-input, rule_fits-lookahead}
use Rattle.ot_contexts.proofs.rule_set.missed_by.Goals as goal

pub returns-in_ok-seen-in-Input : goal.returns-in_ok-seen-in-Input
returns-in_ok-seen-in-Input c =
    let asked : asked_at c.args.is_chained c.args.table.now 0 ≡ Some (Input c.in-Input.asked) =
    (rw c.in_ok-asked.was at c.asked_next.ensures) ∙ ap Some c.in-Input.is in
    if_some-more c.other_than.result c.other_than.ensures (λ beside both. λ s m input backtrack.
    rule_fits-input s c.args.is_chained m c.args.table.now c.in-Input.asked c.in_ok-seen-in-Input.field-0 asked
    (rw c.in_ok-seen-in-Input.was at input) both.1)

pub returns-in_ok-seen-in-Lookahead : goal.returns-in_ok-seen-in-Lookahead
returns-in_ok-seen-in-Lookahead c =
    let asked : asked_at c.args.is_chained c.args.table.now 0 ≡ Some (Lookahead c.in-Lookahead.asked) =
    (rw c.in_ok-asked.was at c.asked_next.ensures) ∙ ap Some c.in-Lookahead.is in
    if_some-more c.other_than-in-Lookahead.result c.other_than-in-Lookahead.ensures (λ beside both. λ s m input backtrack.
    rule_fits-lookahead s c.args.is_chained m c.args.table.now c.in-Lookahead.asked c.in_ok-seen-in-Lookahead.field-0 asked
    (rw c.in_ok-seen-in-Lookahead.was at backtrack) both.1)
