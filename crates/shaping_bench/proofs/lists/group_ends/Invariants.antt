use Rattle.std.proofs.Common.{◌≤◌, ◌-◌}
use Rattle.shaping_bench.proofs.lists.group_ends.Given as goal

abbrev pub invariant-loop-start : goal.invariant-loop-start
invariant-loop-start l = l.start ≤ l.len

abbrev pub decreases-loop-start : goal.decreases-loop-start
decreases-loop-start l = l.len - l.start
