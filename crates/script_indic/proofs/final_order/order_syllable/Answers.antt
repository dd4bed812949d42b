use Rattle.script_syllables.proofs.NumbersLemmas.{numbers_then, numbers_of_keeps}
use Rattle.script_indic.proofs.final_order.order_syllable.Goals as goal

pub returns : goal.returns
returns c = record {
  closed = c.mark_start_of_word.ensures.closed;
  keeps = numbers_then _ _ _ (numbers_of_keeps _ _ c.find_base-base.ensures.keeps)
      (numbers_then _ _ _ c.move_matras-place.ensures.keeps
      (numbers_then _ _ _ c.move_reph-place.ensures.keeps
      (numbers_then _ _ _ c.move_pref.ensures.keeps (numbers_of_keeps _ _ c.mark_start_of_word.ensures.keeps))));
}
