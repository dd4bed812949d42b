use Rattle.shape_lines.proofs.ReadingLemmas.{ReadSoFar}
use Rattle.shape_lines.proofs.reading.next_line.Given as goal

-- so much of the line was read, and not its end
abbrev pub invariant-loop : goal.invariant-loop
invariant-loop g l =
    ReadSoFar l.reading (g.R.Read.remaining l.initial.reader) (g.R.Read.remaining l.reader) l.line.items
