use Rattle.std.proofs.Common.{◌≡◌}
use Rattle.font_outlines.specs.Charstring.{lines}
use Rattle.font_outlines.proofs.curves.lines.Given as goal

-- the lines so far are drawn
abbrev pub invariant-loop-line : goal.invariant-loop-line
invariant-loop-line l = l.path ≡ lines l.fn.path l.numbers l.line
