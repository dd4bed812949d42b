use Rattle.std.proofs.Common.{◌≡◌, false}
use Rattle.shaping_buffer.specs.KeepsClusters.{KeepsClusters}
use Rattle.script_joining.proofs.joining.flags.flag_joins.Given as goal

abbrev pub invariant-loop-i : goal.invariant-loop-i
invariant-loop-i l = (l.buffer.have_output ≡ false) × KeepsClusters l.fn.buffer l.buffer
