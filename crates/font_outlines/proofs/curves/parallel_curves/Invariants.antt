use Rattle.std.proofs.Common.{◌≡◌}
use Rattle.font_outlines.specs.Charstring.{parallel_curves}
use Rattle.font_outlines.proofs.curves.parallel_curves.Given as goal

-- the curves so far are drawn
abbrev pub invariant-loop-curve : goal.invariant-loop-curve
invariant-loop-curve l = l.path ≡ parallel_curves l.is_horizontal l.fn.path l.numbers l.curve
