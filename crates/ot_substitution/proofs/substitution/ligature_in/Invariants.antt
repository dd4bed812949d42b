use Rattle.std.proofs.Common.{◌≡◌, ◌<◌, None}
use Rattle.ot_layout.specs.Budget.{IsNotMore}
use Rattle.ot_contexts.specs.Match.{first_of}
use Rattle.ot_substitution.proofs.substitution.ligature_in.Given as goal

abbrev pub invariant-loop-index : goal.invariant-loop-index
invariant-loop-index l =
    IsNotMore l.fn.search.budget l.search.budget
    × (0 < l.search.budget.steps → first_of l.ctx l.set l.index ≡ None)
