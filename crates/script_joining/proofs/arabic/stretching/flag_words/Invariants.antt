use Rattle.std.proofs.Common.{◌≡◌}
use Rattle.script_joining.specs.ArabicMarks.{StaysPlaced}
use Rattle.script_joining.proofs.arabic.stretching.flag_words.Given as goal

abbrev pub invariant-loop-stretch : goal.invariant-loop-stretch
invariant-loop-stretch l =
    (l.buffer.successful ≡ l.fn.buffer.successful) × StaysPlaced l.fn.buffer l.buffer
