-- The bisection finds the row that the walk finds.
use Rattle.std.proofs.Common.{rules, ℕ, ◌∙◌}
use Rattle.std.proofs.lemmas.Fn.{always_returns_same}
use Rattle.rb_glyph.proofs.RisingRows.{pair_cmp, pairs_searchable, pairs_found}
use Rattle.rb_glyph.proofs.row_search.value_of_pair.Goals as goal

pub returns : goal.returns
returns c =
    let rows = c.args.rows.now in
    let asked : ℕ × ℕ = (c.args.a, c.args.b) in
    let found = c.row_at.ensures (λ (row : (ℕ × ℕ) × ℕ). pair_cmp row.0 asked)
    (always_returns_same _ _ _ (λ a r q called. search rules)) (pairs_searchable asked rows c.requires)
    ∙ pairs_found asked rows in
    rw (← found) (search rules)
