use Rattle.font_tables.proofs.RowLemmas.{first_below-some, first_below-none}
use Rattle.font_cmap.specs.Choice.{record_count}
use Rattle.std.proofs.Common.{◌≡◌, ◌<◌, sym, arith, ◌∙◌}
use Rattle.font_cmap.proofs.choice.record_of.Goals as goal

pub returns-then-is_record_of-clause-is : goal.returns-then-is_record_of-clause-is
returns-then-is_record_of-clause-is c =
    let end = c.record_count-row-end.ensures.is in
    let inside : c.loop-row.row < record_count c.args.cmap.now = omega arith in
    sym (first_below-some _ _ _ inside (sym c.is_record_of.ensures ∙ c.if-is_record_of.true) c.loop-row.invariant)

pub returns-clause-is : goal.returns-clause-is
returns-clause-is c =
    let end : c.loop-row.row ≡ record_count c.args.cmap.now = omega (arith, c.record_count-row-end.ensures.is) in
    sym (first_below-none _ _ (rw end at c.loop-row.invariant))
