use Rattle.std.proofs.Common.{◌<◌, arith, refl, sym, unwrap_or}
use Rattle.std.proofs.lemmas.Grind.{common_steps}
use Rattle.font_tables.specs.Bytes.{number_16}
use Rattle.ot_contexts.proofs.RuleSetLemmas.{first_fits, first_is_some}
use Rattle.ot_contexts.proofs.rule_set.first_fit.Goals as goal

pub returns-in-Some-clause-rule : goal.returns-in-Some-clause-rule
returns-in-Some-clause-rule c =
    let inside : c.loop-index.index < unwrap_or (number_16 c.args.rules.now.table.now 0) 0 = grind (arith, common_steps) in
    first_fits _ _ _ _ _ _ _ _ _ _ (c.loop-index.invariant.2 (omega arith)) inside refl c.in-Some.ensures.rule

pub returns-in-Some-clause-exact : goal.returns-in-Some-clause-exact
returns-in-Some-clause-exact c some =
    let inside : c.loop-index.index < unwrap_or (number_16 c.args.rules.now.table.now 0) 0 = grind (arith, common_steps) in
    sym (first_is_some _ _ _ _ _ _ _ _ _ (c.loop-index.invariant.2 (omega arith)) inside refl c.in-Some.ensures.rule)
