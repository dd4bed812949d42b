use Rattle.std.proofs.Common.{◌≤◌}
use Rattle.font_outlines.proofs.charstring.+run.Given as goal

-- a subroutine is called less deep
abbrev pub decreases-run : goal.decreases-run
decreases-run l = l.depth

-- each operator is a step, and steps are never given back
abbrev pub invariant-loop-steps : goal.invariant-loop-steps
invariant-loop-steps l = l.steps ≤ l.fn.steps

abbrev pub decreases-loop-steps : goal.decreases-loop-steps
decreases-loop-steps l = l.steps
