use Rattle.std.proofs.Common.{◌≡◌, ◌<◌, true}
use Rattle.shaping_bench.proofs.walks.delete_third.Given as goal

abbrev pub invariant-loop : goal.invariant-loop
invariant-loop l = (l.buffer.have_output ≡ true) × (l.turn < 3)
