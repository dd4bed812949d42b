use Rattle.std.proofs.Common.{◌≡◌, true}
use Rattle.shaping_bench.proofs.walks.rewinds_behind.Given as goal

abbrev pub invariant-loop : goal.invariant-loop
invariant-loop l = l.buffer.have_output ≡ true
