use Rattle.shaping_runs.proofs.RenderLemmas.{set_more}
use Rattle.shaping_runs.proofs.rendering.set_features.Goals as goal

pub loop-i-preserved : goal.loop-i-preserved
loop-i-preserved c = set_more _ _ _ _ _ _ c.loop-i-test.true c.loop-i.invariant c.set_feature.ensures
