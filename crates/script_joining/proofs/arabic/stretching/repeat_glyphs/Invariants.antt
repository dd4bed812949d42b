use Rattle.std.proofs.Common.{◌≡◌, true}
use Rattle.shaping_buffer.specs.KeepsClusters.{KeepsClusters}
use Rattle.script_joining.proofs.arabic.stretching.repeat_glyphs.Given as goal

abbrev pub invariant-loop-count : goal.invariant-loop-count
invariant-loop-count l =
    (l.buffer.have_output ≡ true) × (l.buffer.successful ≡ l.fn.buffer.successful)
    × KeepsClusters l.fn.buffer l.buffer
