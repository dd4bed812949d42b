use Rattle.font_tables.proofs.RowLemmas.{first_below-some, first_below-none}
use Rattle.std.proofs.Common.{◌≡◌, ◌<◌, sym, ap, arith, ◌∙◌, is_some}
use Rattle.ot_map.proofs.builder.ChosenTable.has_feature.Goals as goal

pub returns-then-has_feature_at : goal.returns-then-has_feature_at
returns-then-has_feature_at c =
    let inside : c.loop-place.place < c.feature_count-place-end.result = omega arith in
    ap is_some (sym (first_below-some _ _ _ (rw c.feature_count-place-end.ensures.is at inside) (sym c.has_feature_at.ensures ∙ c.if-has_feature_at.true) c.loop-place.invariant))

pub returns : goal.returns
returns c =
    let end : c.loop-place.place ≡ c.feature_count-place-end.result = omega arith in
    ap is_some (sym (first_below-none _ _ (rw (end, c.feature_count-place-end.ensures.is) at c.loop-place.invariant)))
