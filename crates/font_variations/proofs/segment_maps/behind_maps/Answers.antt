use Rattle.std.proofs.Common.{◌≡◌, ◌≤◌, ◌+◌, None, refl, sym, arith, add-one, ◌∙◌}
use Rattle.font_variations.specs.SegmentMaps.{end_of, end_of_map}
use Rattle.font_variations.proofs.SegmentLemmas.{end_of_none}
use Rattle.font_variations.proofs.segment_maps.behind_maps.Goals as goal

pub returns-in_err-at-clause-is : goal.returns-in_err-at-clause-is
returns-in_err-at-clause-is c =
    let maps = c.args.maps.now in
    let map = c.loop-map._map in
    let below : map + 1 ≤ c.args.count = omega arith in
    let here : end_of_map maps c.loop-map.at ≡ None = sym c.in_err-at.ensures.is in
    let cut : end_of maps (map + 1) ≡ None = rw (add-one, c.loop-map.invariant.is, here) refl in
    let found = end_of_none maps c.args.count (map + 1) below cut in
    c.from_residual.ensures ∙ sym found
