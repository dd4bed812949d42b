use Rattle.font_tables.proofs.RowLemmas.{first_below-some, first_below-none}
use Rattle.std.proofs.Common.{◌≡◌, ◌<◌, sym, arith, ◌∙◌}
use Rattle.font_tables.proofs.rows.walk.Goals as goal

pub returns-then-reaches-clause-is : goal.returns-then-reaches-clause-is
returns-then-reaches-clause-is g c =
    let inside : c.loop-row.row < c.args.count = omega arith in
    sym (first_below-some _ _ _ inside (sym c.reaches.ensures ∙ c.if-reaches.true) c.loop-row.invariant)

pub returns-clause-is : goal.returns-clause-is
returns-clause-is g c =
    let end : c.loop-row.row ≡ c.args.count = omega arith in
    sym (first_below-none _ _ (rw end at c.loop-row.invariant))
