use Rattle.std.proofs.Common.{◌≤◌}
use Rattle.script_joining.proofs.arabic.measure.run_start.Given as goal

abbrev pub invariant-loop-start : goal.invariant-loop-start
invariant-loop-start g l = l.start ≤ l.end

abbrev pub decreases-loop-start : goal.decreases-loop-start
decreases-loop-start g l = l.start
