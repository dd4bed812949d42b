use Rattle.std.proofs.Common.{◌≡◌, ◌-◌}
use Rattle.shaping_session.specs.Commands.{ids_in}
use Rattle.shaping_session.proofs.ReplacementLemmas.{ids_before}
use Rattle.shaping_session.proofs.command.ids.Given as goal

-- those that are taken come before those that are left to take
abbrev pub invariant-loop-i : goal.invariant-loop-i
invariant-loop-i l = ids_in l.count l.fn.words ≡ ids_before l.ids.items (ids_in (l.count - l.i) l.words)
