use Rattle.shaping_buffer.proofs.ClosedKeepsLemmas.{keeps_with_input}
use Rattle.script_syllables.proofs.syllables.number_items.Goals as goal

pub returns : goal.returns
returns c = record {
  closed = c.requires;
  keeps = keeps_with_input c.args.buffer.now c.number_syllables.new.infos c.info_slice_mut.result.now c.info_slice_mut.ensures.value
      c.number_syllables.ensures;
}
