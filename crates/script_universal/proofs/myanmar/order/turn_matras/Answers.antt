use Rattle.script_syllables.proofs.NumbersLemmas.{numbers_moved_input}
use Rattle.script_universal.proofs.myanmar.order.turn_matras.Goals as goal

pub returns : goal.returns
returns c = record {
  closed = c.requires;
  keeps = numbers_moved_input c.args.buffer.now c.turn_in.new.infos c.info_slice_mut.result.now c.info_slice_mut.ensures.value
      c.turn_in.ensures;
}
