use Rattle.std.proofs.Common.{sym}
use Rattle.rb_glyph.proofs.Bisection.{found_at, found_none}
use Rattle.rb_glyph.proofs.row_search.row_at.Goals as goal

pub returns-in-Ok : goal.returns-in-Ok
returns-in-Ok g c =
    λ key computes searchable. sym
    (found_at key _ searchable _ _ c.in-Ok.ensures.bound (c.in-Ok.ensures.position key computes) c.index-rows-at.is)

pub returns-in-Err : goal.returns-in-Err
returns-in-Err g c =
    λ key computes searchable. sym (found_none key _ searchable _ (c.in-Err.ensures.position key computes))
