use Rattle.shaping_buffer.proofs.ClosedKeepsLemmas.{keeps_with_input}
use Rattle.script_universal.proofs.myanmar.order.place_items.Goals as goal

pub returns : goal.returns
returns c = record {
  closed = c.requires;
  keeps = keeps_with_input c.args.buffer.now c.place_in.new.infos c.info_slice_mut.result.now c.info_slice_mut.ensures.value
      c.place_in.ensures;
}
