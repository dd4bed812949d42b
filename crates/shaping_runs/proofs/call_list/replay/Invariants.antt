use Rattle.shaping_runs.proofs.ReplayLemmas.{Told}
use Rattle.shaping_runs.proofs.call_list.replay.Given as goal

-- the calls so far were made, and the answers to them told
abbrev pub invariant-loop-i : goal.invariant-loop-i
invariant-loop-i l = Told l.calls l.i l.fn.buffer l.fn.answers l.buffer l.answers
