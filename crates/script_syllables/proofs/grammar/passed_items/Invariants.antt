use Rattle.std.proofs.Common.{◌≡◌, ◌+◌, not, drop}
use Rattle.std.specs.List.{position_or_len}
use Rattle.script_syllables.specs.Item.{is_passed_over}
use Rattle.script_syllables.proofs.grammar.passed_items.Given as goal

-- all items so far are passed over
abbrev pub invariant-loop-place : goal.invariant-loop-place
invariant-loop-place l =
    position_or_len (λ g. not (is_passed_over g)) l.infos
    ≡ l.place + position_or_len (λ g. not (is_passed_over g)) (drop l.place l.infos)
