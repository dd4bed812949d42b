use Rattle.shaping_buffer.proofs.ClosedKeepsLemmas.{keeps_with_input}
use Rattle.script_universal.proofs.OrderLemmas.{glyphs-with_input}
use Rattle.script_universal.proofs.khmer.order.mask_coeng_ro.Goals as goal

pub returns-clause-glyphs : goal.returns-clause-glyphs
returns-clause-glyphs c =
    glyphs-with_input c.args.buffer.now c.set_coeng_masks.new.infos c.info_slice_mut.result.now c.info_slice_mut.ensures.value
    c.set_coeng_masks.ensures.glyphs

pub returns-clause-stays : goal.returns-clause-stays
returns-clause-stays c = record {
  closed = c.requires;
  keeps = keeps_with_input c.args.buffer.now c.set_coeng_masks.new.infos c.info_slice_mut.result.now c.info_slice_mut.ensures.value
      c.set_coeng_masks.ensures.same;
}
