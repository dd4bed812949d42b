use Rattle.shape_options.proofs.FeatureLemmas.{adds_one_more}
use Rattle.shape_options.proofs.features.push_features.Goals as goal

pub loop-text-preserved : goal.loop-text-preserved
loop-text-preserved c =
    adds_one_more _ _ _ c.as_slice-text-items.result.now c.loop-text.text-index _ c.loop-text-test.true
    c.loop-text.invariant c.in_ok-push_feature.ensures
