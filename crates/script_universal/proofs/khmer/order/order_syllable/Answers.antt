use Rattle.std.proofs.Common.{take, ap}
use Rattle.script_syllables.proofs.NumbersLemmas.{numbers_of_keeps}
use Rattle.script_universal.proofs.khmer.order.order_syllable.Goals as goal

pub loop-place-init : goal.loop-place-init
loop-place-init c = record {
  before = ap (take c.args.range.now.start) c.mask_behind_first.ensures.glyphs;
  stays = record {
    closed = c.mask_behind_first.ensures.stays.closed;
    keeps = numbers_of_keeps _ _ c.mask_behind_first.ensures.stays.keeps;
  };
}
