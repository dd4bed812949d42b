use Rattle.std.proofs.Common.{length}
use Rattle.shaping_session.proofs.TranscriptLemmas.{AnswersBefore}
use Rattle.shaping_session.proofs.run.answer_lines.Given as goal

-- each line so far has its answer
abbrev pub invariant-loop-rest : goal.invariant-loop-rest
invariant-loop-rest g l =
    AnswersBefore l.input l.rest l.session (g.W.Write.contents l.initial.writer) (g.W.Write.contents l.writer)
    l.held.items

abbrev pub decreases-loop-rest : goal.decreases-loop-rest
decreases-loop-rest g l = length l.rest
