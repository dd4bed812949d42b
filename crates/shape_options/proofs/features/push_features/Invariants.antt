use Rattle.std.proofs.Common.{map, take}
use Rattle.shape_options.specs.Features.{AddsFeatures}
use Rattle.shape_options.proofs.features.push_features.Given as goal

abbrev pub invariant-loop-text : goal.invariant-loop-text
invariant-loop-text l =
    AddsFeatures l.initial.features.items l.features.items (map (λ t. t.now) (take l.text-index l.text-items))
