use Rattle.shaping_buffer.proofs.ClosedKeepsLemmas.{keeps_with_input}
use Rattle.ot_normalization.proofs.normalization.decomposition.map_characters.Goals as goal

pub returns : goal.returns
returns g c = record {
  closed = c.requires;
  keeps = keeps_with_input c.args.buffer.now c.map_all.new.infos c.info_slice_mut.result.now
      c.info_slice_mut.ensures.value c.map_all.ensures;
}
