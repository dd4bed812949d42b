use Rattle.font_tables.proofs.RowLemmas.{first_below-some, first_below-none}
use Rattle.std.proofs.Common.{◌≡◌, ◌<◌, ◌-◌, ap, sym, arith, ◌∙◌, unwrap_or}
use Rattle.aat_tables.specs.Tracking.{is_at_least}
use Rattle.aat_tables.proofs.tracking.size_place.Goals as goal

pub returns-then-is_at_least : goal.returns-then-is_at_least
returns-then-is_at_least c =
    let inside : c.loop-place.place < c.args.count - 1 = omega arith in
    let passes = ap (is_at_least c.args.points) (sym c.size_at.ensures) ∙ (sym c.is_at_least.ensures ∙ c.if-is_at_least.true) in
    sym (ap (λ found. unwrap_or found (c.args.count - 1)) (first_below-some _ _ _ inside passes c.loop-place.invariant))

pub returns : goal.returns
returns c =
    let end : c.loop-place.place ≡ c.args.count - 1 = omega arith in
    sym (ap (λ found. unwrap_or found (c.args.count - 1)) (first_below-none _ _ (rw end at c.loop-place.invariant)))
