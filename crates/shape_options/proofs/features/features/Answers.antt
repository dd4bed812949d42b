use Rattle.std.proofs.Common.{◌≤◌, [], length, map, ap, ◌∙◌, arith}
use Rattle.std.specs.List.{slice_split}
use Rattle.shape_options.specs.Features.{is_space}
use Rattle.shape_options.proofs.FeatureLemmas.{adds_part_more, reads_whole}
use Rattle.shape_options.proofs.features.features.Goals as goal

pub loop-part-preserved : goal.loop-part-preserved
loop-part-preserved c =
    adds_part_more (slice_split is_space) [] _ _ c.as_slice-part-items.result.now c.loop-part.part-index _
    c.loop-part-test.true c.loop-part.invariant c.in_ok-push_features.ensures

pub returns : goal.returns
returns c =
    let whole : length c.as_slice-part-items.result.now ≤ c.loop-part.part-index = omega arith in
    reads_whole (slice_split is_space) _ c.as_slice-part-items.result.now c.loop-part.part-index _ c.loop-part.invariant
    whole (ap (map (λ t. t.now)) c.as_slice-part-items.ensures.value ∙ c.in_ok-parts.ensures)
