use Rattle.std.proofs.Common.{◌≡◌}
use Rattle.font_colors.specs.Transform.{series, term}
use Rattle.font_colors.proofs.angles.series.Given as goal

-- the terms so far are summed
abbrev pub invariant-loop-step : goal.invariant-loop-step
invariant-loop-step l = record {
  term : l.term ≡ term l.angle l.first l.from l.step;
  sum : l.sum ≡ series l.angle l.first l.from l.step;
}
