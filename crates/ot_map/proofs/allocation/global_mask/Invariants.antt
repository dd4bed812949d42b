use Rattle.std.proofs.Common.{◌≡◌, drop}
use Rattle.ot_map.specs.Allocation.{with_defaults}
use Rattle.ot_map.proofs.allocation.global_mask.Given as goal

abbrev pub invariant-loop-feature : goal.invariant-loop-feature
invariant-loop-feature l = with_defaults l.mask (drop l.feature-index l.features) ≡ with_defaults 2147483648 l.features
