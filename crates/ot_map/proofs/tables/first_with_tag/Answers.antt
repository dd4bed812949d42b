use Rattle.font_tables.proofs.RowLemmas.{first_below-some, first_below-none}
use Rattle.std.proofs.Common.{◌≡◌, ◌<◌, sym, arith, ◌∙◌}
use Rattle.ot_map.proofs.tables.first_with_tag.Goals as goal

pub returns-then-has_tag-clause-is : goal.returns-then-has_tag-clause-is
returns-then-has_tag-clause-is c =
    let inside : c.loop-row.row < c.args.count = omega arith in
    sym (first_below-some _ _ _ inside (sym c.has_tag.ensures ∙ c.if-has_tag.true) c.loop-row.invariant)

pub returns-clause-is : goal.returns-clause-is
returns-clause-is c =
    let end : c.loop-row.row ≡ c.args.count = omega arith in
    sym (first_below-none _ _ (rw end at c.loop-row.invariant))
