use Rattle.std.proofs.Common.{◌≡◌, ◌-◌, false, length}
use Rattle.shaping_buffer.specs.KeepsClusters.{KeepsClusters}
use Rattle.ot_characters.specs.FormedClusters.{graphemes_formed}
use Rattle.ot_characters.proofs.text.form_each.Given as goal

-- what is left makes of the buffer what all make of the text
abbrev pub invariant-loop-turn : goal.invariant-loop-turn
invariant-loop-turn l = record {
  closed : l.buffer.have_output ≡ false;
  keeps : KeepsClusters l.fn.buffer l.buffer;
  is : graphemes_formed l.merges (length l.fn.buffer.input - l._turn) l.start l.buffer
      ≡ graphemes_formed l.merges (length l.fn.buffer.input) 0 l.fn.buffer;
}
