use Rattle.std.proofs.Common.{◌∙◌, ap, is_some, option_map, sym}
use Rattle.std.specs.Prelude.{option_copied}
use Rattle.ot_contexts.specs.Pattern.{pattern_of}
use Rattle.ot_contexts.proofs.RuleSetLemmas.{rule_at-missed, rule_at-passed, rule_at-told, rules_fit}
use Rattle.ot_contexts.proofs.rule_set.fit_at.Goals as goal

pub returns-in-Some-clause-exact : goal.returns-in-Some-clause-exact
returns-in-Some-clause-exact c some =
    let table = sym c.table_at_16.ensures ∙ ap option_copied c.in_ok-table.was in
    let rules = c.args.rules.now in
    sym (ap is_some (rule_at-told c.args.ctx.now rules.is_chained rules.match_functions rules.table.now _ c.args.index table
    (λ p is. sym (c.requires.neighbours p) ∙ c.told_apart.ensures (ap is_some c.in-Some.is) rules.match_functions p c.requires.told is)))

pub returns-in-Some-missed_by-clause-exact : goal.returns-in-Some-missed_by-clause-exact
returns-in-Some-missed_by-clause-exact c some =
    let table = sym c.table_at_16.ensures ∙ ap option_copied c.in_ok-table.was in
    let rules = c.args.rules.now in
    sym (ap is_some (rule_at-missed c.args.ctx.now rules.is_chained rules.match_functions rules.table.now _ c.args.index table
    (c.in-Some-missed_by.ensures c.args.ctx.now rules.match_functions c.requires.input c.requires.lookahead)))

pub returns-then-not-may_fit-clause-exact : goal.returns-then-not-may_fit-clause-exact
returns-then-not-may_fit-clause-exact c some =
    let p = pattern_of c.in_ok-rule.rule in
    let table = sym c.table_at_16.ensures ∙ ap option_copied c.in_ok-table.was in
    let rule = sym c.rule_in-2.ensures ∙ ap (option_map pattern_of) c.in_ok-rule.was in
    let other = sym (c.requires.neighbours p) ∙ (sym c.may_fit.ensures ∙ c.if-not-may_fit.true) in
    sym (ap is_some (rule_at-passed c.args.ctx.now c.args.rules.now.is_chained c.args.rules.now.match_functions
    c.args.rules.now.table.now _ c.args.index p table rule other))

pub returns-clause-rule : goal.returns-clause-rule
returns-clause-rule c =
    let p = pattern_of c.in_ok-rule.rule in
    let table = sym c.table_at_16.ensures ∙ ap option_copied c.in_ok-table.was in
    let rule = sym c.rule_in-2.ensures ∙ ap (option_map pattern_of) c.in_ok-rule.was in
    let next = sym (c.requires.neighbours p) ∙ (sym c.may_fit.ensures ∙ c.if-not-may_fit.false) in
    rules_fit c.args.ctx.now c.args.rules.now.is_chained c.args.rules.now.match_functions
    c.args.rules.now.table.now _ c.args.index p _ c.fit.result table rule next c.fit.ensures.is
