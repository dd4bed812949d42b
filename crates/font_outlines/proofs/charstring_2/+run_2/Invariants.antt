use Rattle.std.proofs.Common.{◌≤◌}
use Rattle.font_outlines.proofs.charstring_2.+run_2.Given as goal

-- a subroutine is called less deep
abbrev pub decreases-run_2 : goal.decreases-run_2
decreases-run_2 l = l.depth

-- each operator is a step, and steps are never given back
abbrev pub invariant-loop-steps : goal.invariant-loop-steps
invariant-loop-steps l = l.steps ≤ l.fn.steps

abbrev pub decreases-loop-steps : goal.decreases-loop-steps
decreases-loop-steps l = l.steps
