use Rattle.std.proofs.Common.{◌≡◌}
use Rattle.script_syllables.specs.Left.{NumbersStay}
use Rattle.script_universal.specs.Order.{glyphs_before}
use Rattle.script_universal.proofs.khmer.order.order_syllable.Given as goal

abbrev pub invariant-loop-place : goal.invariant-loop-place
invariant-loop-place l = record {
  before : glyphs_before l.range.start l.buffer.input ≡ glyphs_before l.range.start l.fn.buffer.input;
  stays : NumbersStay l.fn.buffer l.buffer;
}
