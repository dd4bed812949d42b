use Rattle.std.proofs.Common.{◌≡◌, drop}
use Rattle.aat_substitution.specs.Actions.{is_selected}
use Rattle.aat_substitution.proofs.chain_flags.is_selected.Given as goal

-- no setting so far is like this one
abbrev pub invariant-loop-feature : goal.invariant-loop-feature
invariant-loop-feature l =
    is_selected l.selected l.start l.kind l.fn.setting ≡ is_selected (drop l.feature-index l.selected) l.start l.kind l.fn.setting
