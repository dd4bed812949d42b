-- The bisection finds the row that the walk finds.
use Rattle.std.proofs.Common.{rules, ℕ, ◌∙◌}
use Rattle.std.proofs.lemmas.Fn.{always_returns_same}
use Rattle.rb_glyph.specs.Search.{range_order}
use Rattle.rb_glyph.proofs.RisingRows.{ranges_searchable, ranges_found}
use Rattle.script_syllables.specs.Category.{range_of}
use Rattle.script_syllables.specs.declared.category.Category.{Category}
use Rattle.script_syllables.specs.declared.category.position.Position.{Position}
use Rattle.script_syllables.proofs.category.search.row_of.Goals as goal

pub returns : goal.returns
returns c =
    let rows = c.args.rows.now in
    let found = c.row_at.ensures (λ (row : ℕ × ℕ × Category × Position). range_order c.args.character (range_of row))
    (always_returns_same _ _ _ (λ a r q called. search rules)) (ranges_searchable range_of c.args.character rows c.requires)
    ∙ ranges_found range_of c.args.character rows in
    rw (← found) (search rules)
