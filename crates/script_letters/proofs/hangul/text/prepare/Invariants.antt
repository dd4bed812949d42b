use Rattle.std.proofs.Common.{◌≡◌, true}
use Rattle.shaping_buffer.specs.KeepsClusters.{KeepsClusters}
use Rattle.script_letters.proofs.hangul.text.prepare.Given as goal

abbrev pub invariant-loop-turn : goal.invariant-loop-turn
invariant-loop-turn g l = (l.buffer.have_output ≡ true) × KeepsClusters l.fn.buffer l.buffer
