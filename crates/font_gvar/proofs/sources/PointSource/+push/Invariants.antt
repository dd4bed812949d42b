use Rattle.std.proofs.Common.{◌≤◌, ◌+◌, ◌*◌}
use Rattle.font_gvar.proofs.sources.PointSource.+push.Given as goal

-- a component is less deep than the glyph that it is a part of
abbrev pub decreases-push_composite : goal.decreases-push_composite
decreases-push_composite l = 3 * l.depth + 2

abbrev pub decreases-push_components : goal.decreases-push_components
decreases-push_components l = 3 * l.depth + 1

abbrev pub decreases-push_glyph : goal.decreases-push_glyph
decreases-push_glyph l = 3 * l.depth

-- steps are never given back
abbrev pub invariant-push_components-loop-offset : goal.invariant-push_components-loop-offset
invariant-push_components-loop-offset l = l.steps ≤ l.fn.steps
