use Rattle.std.proofs.Common.{[], map, take, flat_map}
use Rattle.std.specs.List.{slice_split}
use Rattle.shape_options.specs.Features.{AddsFeatures, is_space}
use Rattle.shape_options.proofs.features.features.Given as goal

abbrev pub invariant-loop-part : goal.invariant-loop-part
invariant-loop-part l =
    AddsFeatures [] l.features.items
    (flat_map (slice_split is_space) (map (λ t. t.now) (take l.part-index l.part-items)))
