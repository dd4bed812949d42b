use Rattle.std.proofs.Common.{take}
use Rattle.ot_map.specs.Asked.{Asks}
use Rattle.ot_map.specs.CommonFeatures.{user_features}
use Rattle.ot_map.proofs.default_features.add_user_features.Given as goal

-- those so far were asked for
abbrev pub invariant-loop-feature : goal.invariant-loop-feature
invariant-loop-feature l = Asks (user_features (take l.feature-index l.features)) l.fn.builder l.builder
