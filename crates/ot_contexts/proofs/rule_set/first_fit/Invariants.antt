use Rattle.std.proofs.Common.{◌≡◌, ◌<◌, ◌≤◌, ◌-◌, None}
use Rattle.ot_layout.specs.Budget.{IsNotMore}
use Rattle.ot_contexts.specs.RuleSet.{first_rule}
use Rattle.ot_contexts.proofs.rule_set.first_fit.Given as goal

abbrev pub invariant-loop-index : goal.invariant-loop-index
invariant-loop-index l =
    IsNotMore l.fn.search.budget l.search.budget
    × (l.index ≤ l.count)
    × (0 < l.search.budget.steps → first_rule l.ctx l.rules.is_chained l.rules.match_functions l.rules.table.now l.index ≡ None)

abbrev pub decreases-loop-index : goal.decreases-loop-index
decreases-loop-index l = l.count - l.index
