use Rattle.font_tables.proofs.RowLemmas.{first_below-some, first_below-none}
use Rattle.std.proofs.Common.{◌≡◌, ◌<◌, ◌+◌, ◌*◌, ap, sym, arith, ◌∙◌}
use Rattle.font_tables.specs.Bytes.{number_32}
use Rattle.aat_tables.specs.Tracking.{is_normal}
use Rattle.aat_tables.proofs.tracking.normal_track.Goals as goal

pub returns-then-is_normal : goal.returns-then-is_normal
returns-then-is_normal c =
    let inside : c.loop-track.track < c.args.count = omega arith in
    let place = ap (λ track. number_32 c.args.tracks.now (8 + 8 * track)) (sym c.from.ensures) in
    let passes = ap is_normal (place ∙ sym c.u32_at.ensures) ∙ (sym c.is_normal.ensures ∙ c.if-is_normal.true) in
    sym (first_below-some _ _ _ inside passes c.loop-track.invariant)

pub returns : goal.returns
returns c =
    let end : c.loop-track.track ≡ c.args.count = omega arith in
    sym (first_below-none _ _ (rw end at c.loop-track.invariant))
