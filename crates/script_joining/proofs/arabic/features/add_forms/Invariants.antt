use Rattle.std.proofs.Common.{map, take}
use Rattle.ot_map.specs.Asked.{Asks, in_stages}
use Rattle.script_joining.specs.ArabicFeatures.{form_feature}
use Rattle.script_joining.proofs.arabic.features.add_forms.Given as goal

-- those so far were asked for
abbrev pub invariant-loop-name : goal.invariant-loop-name
invariant-loop-name l =
    Asks (in_stages (map (λ name. form_feature l.is_arabic name.now) (take l.name-index l.names))) l.fn.builder l.builder
