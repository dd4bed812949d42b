use Rattle.std.proofs.Common.{◌≡◌, false}
use Rattle.script_syllables.specs.KeepsNumbers.{KeepsNumbers}
use Rattle.script_syllables.proofs.reordering.reorder_syllables.Given as goal

abbrev pub invariant-loop-turn : goal.invariant-loop-turn
invariant-loop-turn g l = (l.buffer.have_output ≡ false) × KeepsNumbers l.fn.buffer l.buffer
