use Rattle.std.proofs.Common.{ℕ, ◌≤◌, length, sym, subst}
use Rattle.std.proofs.lemmas.List.{get_or_past}
use Rattle.script_syllables.specs.Category.{categories}
use Rattle.script_syllables.specs.declared.category.Category.TheVariants.{Other}
use Rattle.script_syllables.proofs.category.Category.numbered.Goals as goal

pub returns-in-None : goal.returns-in-None
returns-in-None c =
    sym (get_or_past categories c.args.number Other
    (subst (λ (n : ℕ). length categories ≤ n) c.from.ensures c.in-None.ensures.lookup.3))
