use Rattle.std.proofs.Common.{map, take}
use Rattle.ot_map.specs.Asked.{Asks, enabled, named}
use Rattle.ot_map.proofs.default_features.enable_all.Given as goal

-- those so far were asked for
abbrev pub invariant-loop-name : goal.invariant-loop-name
invariant-loop-name l = Asks (map (λ name. enabled l.flags (named name.now)) (take l.name-index l.names)) l.fn.builder l.builder
