use Rattle.shape_lines.specs.Lines.{IsShown}
use Rattle.shape_answers.proofs.LineLemmas.{AnswersSoFar}
use Rattle.shape_answers.proofs.lines.answer_lines.Given as goal

-- each line so far has its answer
abbrev pub invariant-loop-number : goal.invariant-loop-number
invariant-loop-number g l =
    AnswersSoFar l.shaper.reading (IsShown l.shaper.output) l.number (g.R.Read.remaining l.initial.reader) (g.R.Read.remaining l.reader)
    (g.W.Write.contents l.initial.writer) (g.W.Write.contents l.writer)
