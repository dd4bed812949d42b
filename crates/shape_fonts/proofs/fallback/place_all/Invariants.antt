use Rattle.std.proofs.Common.{◌≡◌, false, IsSome}
use Rattle.shaping_buffer.specs.KeepsClusters.{KeepsClusters}
use Rattle.shape_fonts.proofs.fallback.place_all.Given as goal

abbrev pub invariant-loop-i : goal.invariant-loop-i
invariant-loop-i g l = (l.buffer.have_output ≡ false) × IsSome l.buffer.positions × KeepsClusters l.fn.buffer l.buffer
