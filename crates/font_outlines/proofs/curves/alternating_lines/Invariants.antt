use Rattle.std.proofs.Common.{◌≡◌}
use Rattle.font_outlines.specs.Charstring.{alternating_lines, way}
use Rattle.font_outlines.proofs.curves.alternating_lines.Given as goal

-- the lines so far are drawn, and the next one takes its turn
abbrev pub invariant-loop-number : goal.invariant-loop-number
invariant-loop-number l = record {
  path : l.path ≡ alternating_lines l.fn.is_horizontal l.fn.path l.numbers l.number-index;
  way : l.is_horizontal ≡ way l.fn.is_horizontal l.number-index;
}
