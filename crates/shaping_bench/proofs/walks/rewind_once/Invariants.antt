use Rattle.std.proofs.Common.{◌≡◌, ◌≤◌, ◌+◌, true, length}
use Rattle.shaping_bench.proofs.walks.rewind_once.Given as goal

abbrev pub invariant-loop : goal.invariant-loop
invariant-loop l = (l.buffer.have_output ≡ true) × (8 ≤ length l.buffer.input + l.counter)
