use Rattle.shaping_runs.proofs.ReplayLemmas.{told_more}
use Rattle.shaping_runs.proofs.call_list.replay.Goals as goal

pub loop-i-preserved : goal.loop-i-preserved
loop-i-preserved c = told_more _ _ _ _ _ _ _ _ _ c.loop-i-test.true c.requires c.loop-i.invariant.state
    c.loop-i.invariant.told c.in-Ok.ensures.0 c.in-Ok.ensures.1
