use Rattle.std.proofs.Common.{◌≡◌, ◌++◌, take, drop}
use Rattle.glyph_lists.specs.Replacement.{copies}
use Rattle.glyph_sides.proofs.copies.fill.Given as goal

abbrev pub invariant-loop-i : goal.invariant-loop-i
invariant-loop-i l = l.slots ≡ copies l.glyph (take l.i l.ids) ++ drop l.i l.fn.slots
