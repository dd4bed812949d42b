use Rattle.font_tables.proofs.RowLemmas.{first_below-some, first_below-none}
use Rattle.std.proofs.Common.{◌≡◌, ◌<◌, sym, arith, ◌∙◌}
use Rattle.font_variations.proofs.feature_variations.record_of.Goals as goal

pub returns-then-is_for : goal.returns-then-is_for
returns-then-is_for c =
    let inside : c.loop-row.row < c.args.count = omega arith in
    sym (first_below-some _ _ _ inside (sym c.is_for.ensures ∙ c.if-is_for.true) c.loop-row.invariant)

pub returns : goal.returns
returns c =
    let end : c.loop-row.row ≡ c.args.count = omega arith in
    sym (first_below-none _ _ (rw end at c.loop-row.invariant))
