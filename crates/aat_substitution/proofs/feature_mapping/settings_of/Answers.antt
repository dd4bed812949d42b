-- The bisection finds the row that a walk finds.
use Rattle.std.proofs.Common.{rules, ℕ, ◌∙◌}
use Rattle.std.proofs.lemmas.Fn.{always_returns_same}
use Rattle.std.specs.Ordering.{nat_cmp}
use Rattle.rb_glyph.proofs.RisingRows.{keys_searchable, keys_found}
use Rattle.aat_substitution.proofs.feature_mapping.settings_of.Goals as goal

pub returns : goal.returns
returns c =
    let rows = c.args.rows.now in
    let found = c.row_at.ensures (λ (row : ℕ × ℕ × ℕ × ℕ). nat_cmp row.0 c.args.tag)
    (always_returns_same _ _ _ (λ a r q called. search rules)) (keys_searchable (λ row. row.0) c.args.tag rows c.requires)
    ∙ keys_found (λ row. row.0) c.args.tag rows in
    rw (← found) (search rules)
