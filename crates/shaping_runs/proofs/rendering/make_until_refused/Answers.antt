use Rattle.shaping_runs.proofs.RenderLemmas.{unrefused_more, refused_at, wants_memory_at}
use Rattle.shaping_runs.proofs.rendering.make_until_refused.Goals as goal

pub loop-i-preserved : goal.loop-i-preserved
loop-i-preserved c = unrefused_more _ _ _ _ _ _ _ _ _ c.loop-i-test.true c.requires c.loop-i.invariant c.in-Ok.ensures.0
    c.in-Ok.ensures.1 (c.is_refused.ensures.no c.if-is_refused.false)

pub returns-then-is_refused-clause-fault : goal.returns-then-is_refused-clause-fault
returns-then-is_refused-clause-fault c = refused_at _ _ _ _ _ _ _ _ _ c.loop-i-test.true c.requires c.loop-i.invariant
    c.in-Ok.ensures.0 c.in-Ok.ensures.1 (c.is_refused.ensures.yes c.if-is_refused.true)

pub returns-in-Err-clause-fault : goal.returns-in-Err-clause-fault
returns-in-Err-clause-fault c = wants_memory_at _ _ _ _ _ _ _ c.loop-i-test.true c.loop-i.invariant c.in-Err.ensures.0
