use Rattle.shaping_runs.proofs.RenderLemmas.{Unrefused}
use Rattle.shaping_runs.proofs.rendering.make_until_refused.Given as goal

-- the calls so far were made and answered, and none was refused
abbrev pub invariant-loop-i : goal.invariant-loop-i
invariant-loop-i l = Unrefused l.calls l.i l.fn.buffer l.fn.answers l.buffer l.answers
