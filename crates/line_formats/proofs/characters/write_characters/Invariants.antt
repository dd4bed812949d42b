use Rattle.std.proofs.Common.{◌≡◌, ◌++◌, drop}
use Rattle.line_formats.specs.Characters.{characters_from}
use Rattle.line_formats.proofs.characters.write_characters.Given as goal

-- the characters so far come before those that are left
abbrev pub invariant-loop-i : goal.invariant-loop-i
invariant-loop-i l =
    l.text.items ++ characters_from l.i (drop l.i l.infos) ≡ l.initial.text.items ++ characters_from 0 l.infos
