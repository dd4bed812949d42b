use Rattle.std.proofs.Common.{◌∙◌, sym}
use Rattle.ot_contexts.proofs.RuleSetLemmas.{rule_at-told}
use Rattle.ot_contexts.proofs.rule_set.is_parted.Goals as goal

pub returns-in-Some : goal.returns-in-Some
returns-in-Some c = λ so.
    let rules = c.args.rules.now in
    rule_at-told c.args._ctx.now rules.is_chained rules.match_functions rules.table.now _ c.args.index
    (rw c.in-Some.is at c.table_within.ensures)
    (λ p is. sym (c.requires.neighbours p) ∙ c.is_apart.ensures so _ rules.match_functions p c.requires.told is)
