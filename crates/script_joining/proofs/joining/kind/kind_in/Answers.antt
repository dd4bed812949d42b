-- The bisection finds the row that the walk finds.
use Rattle.std.proofs.Common.{rules, ℕ, ◌∙◌}
use Rattle.std.proofs.lemmas.Fn.{always_returns_same}
use Rattle.rb_glyph.specs.Search.{range_order}
use Rattle.rb_glyph.proofs.RisingRows.{ranges_searchable, ranges_found}
use Rattle.script_joining.specs.declared.joining.kind.JoiningType.{JoiningType}
use Rattle.script_joining.specs.Listed.{range_of}
use Rattle.script_joining.proofs.joining.kind.kind_in.Goals as goal

pub returns : goal.returns
returns c =
    let rows = c.args.rows.now in
    let found = c.row_at.ensures (λ (row : ℕ × ℕ × JoiningType). range_order c.args.c (range_of row))
    (always_returns_same _ _ _ (λ a r q called. search rules)) (ranges_searchable range_of c.args.c rows c.requires)
    ∙ ranges_found range_of c.args.c rows in
    rw (← found) (search rules)
