use Rattle.std.proofs.Common.{◌≡◌}
use Rattle.shaping_buffer.specs.Step.{unlimited}
use Rattle.aat_substitution.specs.Insertions.{put_before}
use Rattle.aat_substitution.specs.Left.{Stays}
use Rattle.aat_substitution.proofs.insertion.insert_before.Given as goal

-- the glyphs so far are put out
abbrev pub invariant-loop-place : goal.invariant-loop-place
invariant-loop-place l = record {
  stays : Stays l.fn.buffer l.buffer;
  puts : put_before l.inserted.glyphs.now l.place l.fn.buffer ≡ unlimited l.buffer;
}
