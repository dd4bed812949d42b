use Rattle.shaping_passes.specs.Lines.{line_ends}
use Rattle.shaping_passes.proofs.LinesLemmas.{Walked}
use Rattle.shaping_passes.proofs.lines.line_ends.Given as goal

-- the ends so far, and those of the lines that are left, are those of the whole text
abbrev pub invariant-loop-place : goal.invariant-loop-place
invariant-loop-place l =
    Walked l.glyphs l.positions (line_ends l.glyphs l.positions l.initial.widths) l.place l.start l.end l.ends.items
    l.widths l.taken l.piece
