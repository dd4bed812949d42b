use Rattle.std.proofs.Common.{◌∙◌}
use Rattle.script_syllables.proofs.MovedLemmas.{same_then, same_alike, same_moved}
use Rattle.script_indic.proofs.initial_order.set_positions.Goals as goal

pub returns : goal.returns
returns c =
    same_then _ _ _ (same_then _ _ _ (same_alike _ _ c.place_base.ensures.same) (same_moved _ _ c.move_halant.ensures))
    (same_alike _ _ (c.attach_before_consonants.ensures ∙ c.attach_signs.ensures))
