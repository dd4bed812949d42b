use Rattle.std.proofs.Common.{◌≤◌, List, length, subst, arith}
use Rattle.std.proofs.lemmas.List.{take_all}
use Rattle.rb_text.specs.declared.feature.Feature.{Feature}
use Rattle.shaping_buffer.proofs.KeepsLemmas.{keeps_then}
use Rattle.ot_apply.specs.Masks.{HasFeatures}
use Rattle.ot_apply.proofs.UserFeatureLemmas.{has_features-more}
use Rattle.ot_apply.proofs.masks.set_feature_masks.Goals as goal

pub loop-feature-preserved : goal.loop-feature-preserved
loop-feature-preserved c = record {
  closed = c.set_feature_mask.ensures.closed;
  keeps = keeps_then c.args.buffer.now c.loop-feature.buffer c.set_feature_mask.new.buffer c.loop-feature.invariant.keeps
      c.set_feature_mask.ensures.keeps;
  set = has_features-more c.args.layout.now c.args.features.now c.loop-feature.feature-index _ c.args.buffer.now
      c.loop-feature.buffer c.set_feature_mask.new.buffer c.loop-feature-test.true c.loop-feature.invariant.set
      c.set_feature_mask.ensures.set;
}

pub returns-clause-set : goal.returns-clause-set
returns-clause-set c =
    let whole : length c.args.features.now ≤ c.loop-feature.feature-index = omega arith in
    subst (λ (fs : List Feature). HasFeatures c.args.layout.now fs c.args.buffer.now c.loop-feature.buffer)
    (take_all c.loop-feature.feature-index c.args.features.now whole) c.loop-feature.invariant.set
