use Rattle.std.proofs.Common.{◌≡◌, ◌++◌, false, drop}
use Rattle.shape_lines.specs.Reading.{held, room}
use Rattle.shape_lines.proofs.reading.held.Given as goal

-- what is seen of the bytes so far, and of the rest
abbrev pub invariant-loop-i : goal.invariant-loop-i
invariant-loop-i l = l.seen.items ++ held l.place.left l.place.hides (drop l.i l.bytes) ≡ held room false l.bytes
