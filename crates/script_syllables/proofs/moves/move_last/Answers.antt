use Rattle.script_syllables.proofs.NumbersLemmas.{numbers_moved_input}
use Rattle.script_syllables.proofs.moves.move_last.Goals as goal

pub returns-clause-stays : goal.returns-clause-stays
returns-clause-stays c = record {
  closed = c.requires;
  keeps = numbers_moved_input c.args.buffer.now c.last_to_start.new.items c.info_slice_mut.result.now c.info_slice_mut.ensures.value
      c.last_to_start.ensures.moved;
}
