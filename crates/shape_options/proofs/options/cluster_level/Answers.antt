use Rattle.std.proofs.Common.{ℕ, List, subst}
use Rattle.std.specs.Prelude.{IfOk, IfErr, Option}
use Rattle.shape_options.specs.Options.{IfGiven, IsInt, IsLevelOf}
use Rattle.shape_options.proofs.options.cluster_level.Goals as goal

pub returns-clause-ok : goal.returns-clause-ok
returns-clause-ok c =
    subst (λ (text : Option (List ℕ)). IfOk c.level_of.result (IsLevelOf text)) c.get_str.ensures c.level_of.ensures.ok

pub returns-clause-err : goal.returns-clause-err
returns-clause-err c =
    subst (λ (text : Option (List ℕ)). IfErr c.level_of.result (λ _. IfGiven IsInt text → ⊥)) c.get_str.ensures
    c.level_of.ensures.err
