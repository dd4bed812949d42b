use Rattle.std.proofs.Common.{◌≡◌, false}
use Rattle.script_syllables.specs.KeepsNumbers.{KeepsNumbers}
use Rattle.script_universal.proofs.universal.order.move_fronts.Given as goal

abbrev pub invariant-loop-place : goal.invariant-loop-place
invariant-loop-place l = (l.buffer.have_output ≡ false) × KeepsNumbers l.fn.buffer l.buffer
