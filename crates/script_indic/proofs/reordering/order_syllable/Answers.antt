use Rattle.std.proofs.Common.{rules}
use Rattle.script_syllables.proofs.NumbersLemmas.{numbers_then, numbers_of_keeps}
use Rattle.script_indic.proofs.reordering.order_syllable.Goals as goal

pub returns : goal.returns
returns g c = record {
  closed = search rules;
  keeps = numbers_then _ _ _ c.put_joiner_first.ensures.keeps
      (numbers_then _ _ _ c.place_items.ensures.keeps
      (numbers_then _ _ _ c.sort_syllable.ensures.keeps (numbers_of_keeps _ _ c.mask_items.ensures.keeps)));
}

pub returns-in_err-base : goal.returns-in_err-base
returns-in_err-base g c = record {
  closed = search rules;
  keeps = numbers_then _ _ _ c.put_joiner_first.ensures.keeps
      (numbers_then _ _ _ c.place_items.ensures.keeps c.sort_syllable.ensures.keeps);
}
