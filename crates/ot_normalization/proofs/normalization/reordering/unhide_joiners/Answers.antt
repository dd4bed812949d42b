use Rattle.shaping_buffer.proofs.ClosedKeepsLemmas.{keeps_with_input}
use Rattle.ot_normalization.proofs.normalization.reordering.unhide_joiners.Goals as goal

pub returns : goal.returns
returns c = record {
  closed = c.requires;
  keeps = keeps_with_input c.args.buffer.now c.unhide_all.new.infos c.info_slice_mut.result.now
      c.info_slice_mut.ensures.value c.unhide_all.ensures;
}
