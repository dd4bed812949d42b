use Rattle.shaping_buffer.proofs.ClosedKeepsLemmas.{keeps_with_input}
use Rattle.script_indic.proofs.final_order.mask_one.Goals as goal

pub returns : goal.returns
returns c = record {
  closed = c.requires;
  keeps = keeps_with_input c.args.buffer.now c.add_mask.new.infos c.info_slice_mut.result.now c.info_slice_mut.ensures.value
      c.add_mask.ensures.same;
}
