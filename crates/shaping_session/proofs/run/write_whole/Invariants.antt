use Rattle.shaping_session.specs.Transcript.{Leaves}
use Rattle.shaping_session.proofs.run.write_whole.Given as goal

-- the writer has what stands before the rest
abbrev pub invariant-loop : goal.invariant-loop
invariant-loop g l =
    Leaves (g.W.Write.contents l.initial.writer) (g.W.Write.contents l.writer) l.bytes l.rest
