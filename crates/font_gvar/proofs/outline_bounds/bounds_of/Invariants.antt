use Rattle.std.proofs.Common.{◌≡◌, take}
use Rattle.font_gvar.specs.Points.{bounds_of}
use Rattle.font_gvar.proofs.outline_bounds.bounds_of.Given as goal

-- the box around the points so far
abbrev pub invariant-loop-point : goal.invariant-loop-point
invariant-loop-point l = l.bounds ≡ bounds_of l.by (take l.point-index l.points)
