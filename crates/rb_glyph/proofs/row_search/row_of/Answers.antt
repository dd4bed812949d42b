use Rattle.std.proofs.Common.{sym, ◌∙◌}
use Rattle.std.specs.Ordering.{nat_cmp}
use Rattle.rb_glyph.proofs.Bisection.{found_at, found_none}
use Rattle.rb_glyph.proofs.RisingRows.{keys_searchable, keys_found}
use Rattle.rb_glyph.proofs.row_search.row_of.Goals as goal

pub returns-in-Ok : goal.returns-in-Ok
returns-in-Ok g c =
    λ key computes up. sym
    (found_at (λ row. nat_cmp (key row) c.args.c) _ (keys_searchable key c.args.c _ up) _ _ c.in-Ok.ensures.bound
    (c.in-Ok.ensures.position key computes) c.index-rows-at.is) ∙ keys_found key c.args.c _

pub returns-in-Err : goal.returns-in-Err
returns-in-Err g c =
    λ key computes up. sym
    (found_none (λ row. nat_cmp (key row) c.args.c) _ (keys_searchable key c.args.c _ up) _
    (c.in-Err.ensures.position key computes)) ∙ keys_found key c.args.c _
