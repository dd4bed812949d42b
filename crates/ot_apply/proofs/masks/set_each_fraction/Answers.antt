use Rattle.shaping_buffer.proofs.KeepsLemmas.{keeps_then}
use Rattle.ot_apply.proofs.FractionLemmas.{fractions_before-more}
use Rattle.ot_apply.proofs.masks.set_each_fraction.Goals as goal

pub loop-place-preserved : goal.loop-place-preserved
loop-place-preserved c = record {
  closed = c.set_if_slash.ensures.closed;
  keeps = keeps_then c.args.buffer.now c.loop-place.buffer c.set_if_slash.new.buffer c.loop-place.invariant.keeps
      c.set_if_slash.ensures.keeps;
  is = fractions_before-more c.args.plan.now c.loop-place.place c.args.buffer.now c.loop-place.buffer
      c.set_if_slash.new.buffer c.loop-place.invariant.is c.set_if_slash.ensures.is;
}
