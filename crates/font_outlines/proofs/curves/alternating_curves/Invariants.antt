use Rattle.std.proofs.Common.{◌≡◌}
use Rattle.font_outlines.specs.Charstring.{alternating_curves, way}
use Rattle.font_outlines.proofs.curves.alternating_curves.Given as goal

-- the curves so far are drawn, and the next one takes its turn
abbrev pub invariant-loop-curve : goal.invariant-loop-curve
invariant-loop-curve l = record {
  path : l.path ≡ alternating_curves l.fn.is_horizontal l.fn.path l.numbers l.curve;
  way : l.is_horizontal ≡ way l.fn.is_horizontal l.curve;
}
