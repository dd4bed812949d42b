use Rattle.std.proofs.Common.{subst}
use Rattle.shaping_buffer.specs.State.{State}
use Rattle.shaping_buffer.specs.KeepsClusters.{KeepsClusters}
use Rattle.ot_apply.proofs.masks.set_masks.Goals as goal

pub returns-clause-set : goal.returns-clause-set
returns-clause-set c = record {
  shaped = c.set_masks_of_script.new.buffer;
  kept = subst (λ (s : State). KeepsClusters s c.set_masks_of_script.new.buffer) c.set_fractions.ensures.is
      c.set_masks_of_script.ensures.keeps;
  features = c.set_feature_masks.ensures.set;
}
