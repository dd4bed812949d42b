use Rattle.std.proofs.Common.{◌≡◌, false}
use Rattle.shaping_buffer.specs.KeepsClusters.{KeepsClusters}
use Rattle.ot_apply.specs.Masks.{fractions_before}
use Rattle.ot_apply.proofs.masks.set_each_fraction.Given as goal

-- the slashes before this place are done
abbrev pub invariant-loop-place : goal.invariant-loop-place
invariant-loop-place l = record {
  closed : l.buffer.have_output ≡ false;
  keeps : KeepsClusters l.fn.buffer l.buffer;
  is : l.buffer ≡ fractions_before l.plan l.place l.fn.buffer;
}
