use Rattle.std.proofs.Common.{ap, ◌∙◌}
use Rattle.ot_attachments.specs.Offsets.{propagated}
use Rattle.ot_attachments.proofs.OffsetsLemmas.{propagated_before-suc}
use Rattle.ot_attachments.proofs.finishing.propagate_each.Goals as goal

pub loop-place-preserved : goal.loop-place-preserved
loop-place-preserved c = record {
  is = propagated_before-suc c.args.direction c.loop-place.place c.args.positions.now c.propagate_attachment_offsets.new.positions
      (c.propagate_attachment_offsets.ensures.is ∙ ap (propagated c.args.direction 64 c.loop-place.place) c.loop-place.invariant.is);
  as_many = c.propagate_attachment_offsets.ensures.as_many ∙ c.loop-place.invariant.as_many;
  span = c.propagate_attachment_offsets.ensures.span;
}
