use Rattle.std.proofs.Common.{◌≡◌, None}
use Rattle.ot_contexts.specs.RuleSet.{first_rule}
use Rattle.ot_contexts.proofs.rule_set.first_unmissed.Given as goal

-- none of the rules so far is taken
abbrev pub invariant-loop-at : goal.invariant-loop-at
invariant-loop-at l =
    first_rule l._ctx l.rules.is_chained l.rules.match_functions l.rules.table.now l.index ≡ None
    → first_rule l._ctx l.rules.is_chained l.rules.match_functions l.rules.table.now l.at ≡ None
