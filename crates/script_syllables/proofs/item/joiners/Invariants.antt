use Rattle.std.proofs.Common.{◌≡◌, ◌+◌, not, drop}
use Rattle.std.specs.List.{position_or_len}
use Rattle.script_syllables.specs.Item.{is_joiner}
use Rattle.script_syllables.proofs.item.joiners.Given as goal

-- all items so far are joiners
abbrev pub invariant-loop-place : goal.invariant-loop-place
invariant-loop-place l =
    position_or_len (λ g. not (is_joiner g)) l.infos
    ≡ l.place + position_or_len (λ g. not (is_joiner g)) (drop l.place l.infos)
