use Rattle.font_tables.proofs.RowLemmas.{first_below-some, first_below-none}
use Rattle.std.proofs.Common.{◌≡◌, ◌<◌, sym, arith, ◌∙◌}
use Rattle.font_variations.proofs.feature_variations.record_that_holds.Goals as goal

pub returns-then-record_holds : goal.returns-then-record_holds
returns-then-record_holds c =
    let inside : c.loop-row.row < c.args.count = omega arith in
    sym (first_below-some _ _ _ inside (sym c.record_holds.ensures ∙ c.if-record_holds.true) c.loop-row.invariant)

pub returns : goal.returns
returns c =
    let end : c.loop-row.row ≡ c.args.count = omega arith in
    sym (first_below-none _ _ (rw end at c.loop-row.invariant))
