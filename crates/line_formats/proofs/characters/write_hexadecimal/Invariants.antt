use Rattle.std.proofs.Common.{◌≡◌, ◌++◌, ◌-◌}
use Rattle.line_formats.specs.Characters.{last_digits}
use Rattle.line_formats.proofs.characters.write_hexadecimal.Given as goal

-- the digits so far come before those that are left
abbrev pub invariant-loop-k : goal.invariant-loop-k
invariant-loop-k l =
    l.text.items ++ last_digits (l.len - l.k) l.number ≡ l.initial.text.items ++ last_digits l.len l.number
