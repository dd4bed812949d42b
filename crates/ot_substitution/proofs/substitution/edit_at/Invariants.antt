use Rattle.std.proofs.Common.{ℕ, ◌<◌, List, Option, drop, length}
use Rattle.ot_layout.specs.Budget.{IsNotMore}
use Rattle.ot_substitution.specs.FirstEdit.{HasPassed, IsFirstEdit}
use Rattle.ot_substitution.specs.declared.substitution.Edit.{Edit}
use Rattle.ot_substitution.proofs.substitution.edit_at.Given as goal

-- the first edit of the subtables that are left is that of all of them
abbrev pub invariant-loop-subtable : goal.invariant-loop-subtable
invariant-loop-subtable l = record {
  spent : IsNotMore l.fn.search.budget l.search.budget;
  passed : HasPassed (length l.subtables) l.fn.search.budget l.search.budget;
  first : 0 < l.search.budget.steps → (places : List ℕ) (edit : Option Edit)
      → IsFirstEdit l.list.coverages.items l.options l.ctx l.is_nested (drop l.subtable-index l.subtables) places edit
      → IsFirstEdit l.list.coverages.items l.options l.ctx l.is_nested l.subtables places edit;
}
