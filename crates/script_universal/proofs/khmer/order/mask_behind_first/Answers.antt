use Rattle.std.proofs.Common.{ap, ◌∙◌}
use Rattle.shaping_buffer.proofs.ClosedKeepsLemmas.{keeps_with_input}
use Rattle.script_universal.specs.Order.{glyphs}
use Rattle.script_universal.proofs.OrderLemmas.{glyphs-masked, glyphs-with_input}
use Rattle.script_universal.proofs.khmer.order.mask_behind_first.Goals as goal

pub returns-clause-glyphs : goal.returns-clause-glyphs
returns-clause-glyphs c =
    glyphs-with_input c.args.buffer.now c.add_mask.new.infos c.info_slice_mut.result.now c.info_slice_mut.ensures.value
    (ap glyphs c.add_mask.ensures.is ∙ glyphs-masked _ _ _ _)

pub returns-clause-stays : goal.returns-clause-stays
returns-clause-stays c = record {
  closed = c.requires;
  keeps = keeps_with_input c.args.buffer.now c.add_mask.new.infos c.info_slice_mut.result.now c.info_slice_mut.ensures.value
      c.add_mask.ensures.same;
}
