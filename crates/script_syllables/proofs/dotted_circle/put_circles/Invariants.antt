use Rattle.std.proofs.Common.{◌≡◌, ◌≤◌, ◌+◌, ◌++◌, true, length}
use Rattle.script_syllables.specs.Circle.{with_circles}
use Rattle.script_syllables.specs.KeepsNumbers.{KeepsNumbers}
use Rattle.script_syllables.proofs.dotted_circle.put_circles.Given as goal

-- what was put out, and what is left with its circles, is the text; each turn reads an item
abbrev pub invariant-loop-turn : goal.invariant-loop-turn
invariant-loop-turn l = record {
  opened : l.buffer.have_output ≡ true;
  keeps : KeepsNumbers l.fn.buffer l.buffer;
  text : l.buffer.out ++ with_circles l.circle l.last l.buffer.input
      ≡ l.fn.buffer.out ++ with_circles l.circle 0 l.fn.buffer.input;
  left : length l.buffer.input + l._turn ≤ length l.fn.buffer.input;
}
