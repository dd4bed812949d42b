use Rattle.script_syllables.proofs.NumbersLemmas.{numbers_with_input}
use Rattle.script_indic.proofs.reordering.place_items.Goals as goal

pub returns : goal.returns
returns c = record {
  closed = c.requires;
  keeps = numbers_with_input c.args.buffer.now c.place_in.new.infos c.info_slice_mut.result.now c.info_slice_mut.ensures.value
      c.place_in.ensures;
}
