use Rattle.shaping_runs.proofs.RenderLemmas.{AreSet}
use Rattle.shaping_runs.proofs.rendering.set_features.Given as goal

abbrev pub invariant-loop-i : goal.invariant-loop-i
invariant-loop-i l = AreSet l.features l.i l.fn.buffer l.buffer
