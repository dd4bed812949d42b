use Rattle.std.proofs.Common.{◌≡◌}
use Rattle.font_outlines.specs.Charstring.{curves}
use Rattle.font_outlines.proofs.curves.curves_and_line.Given as goal

-- the curves so far are drawn
abbrev pub invariant-loop-curve : goal.invariant-loop-curve
invariant-loop-curve l = l.path ≡ curves l.fn.path l.numbers l.curve
