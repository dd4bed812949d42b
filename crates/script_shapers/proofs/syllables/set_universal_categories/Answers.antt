use Rattle.shaping_buffer.proofs.ClosedKeepsLemmas.{keeps_with_input}
use Rattle.script_shapers.proofs.syllables.set_universal_categories.Goals as goal

pub returns : goal.returns
returns c = record {
  closed = c.requires;
  keeps = keeps_with_input c.args.buffer.now c.set_categories.new.infos c.info_slice_mut.result.now c.info_slice_mut.ensures.value
      c.set_categories.ensures;
}
