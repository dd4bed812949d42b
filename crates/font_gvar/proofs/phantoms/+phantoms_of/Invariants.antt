use Rattle.std.proofs.Common.{◌≤◌}
use Rattle.font_gvar.proofs.phantoms.+phantoms_of.Given as goal

-- a component is less deep than the glyph that it is a part of
abbrev pub decreases-phantoms_of : goal.decreases-phantoms_of
decreases-phantoms_of l = l.depth

-- steps are never given back
abbrev pub invariant-loop : goal.invariant-loop
invariant-loop l = l.steps ≤ l.fn.steps
