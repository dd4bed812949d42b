use Rattle.std.proofs.Common.{◌≡◌, ◌<◌, true, length}
use Rattle.shaping_buffer.specs.KeepsClusters.{KeepsClusters}
use Rattle.script_joining.proofs.arabic.stretching.repeat_glyph.Given as goal

abbrev pub invariant-loop-turn : goal.invariant-loop-turn
invariant-loop-turn l =
    (l.buffer.have_output ≡ true) × (0 < length l.buffer.input) × (l.buffer.successful ≡ l.fn.buffer.successful)
    × KeepsClusters l.fn.buffer l.buffer
