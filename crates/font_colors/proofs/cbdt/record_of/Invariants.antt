use Rattle.font_tables.proofs.RowLemmas.{NoneBelow}
use Rattle.font_colors.specs.Cbdt.{holds}
use Rattle.font_colors.proofs.cbdt.record_of.Given as goal

-- the records so far do not hold the glyph
abbrev pub invariant-loop-row : goal.invariant-loop-row
invariant-loop-row l = NoneBelow (holds l.records l.glyph.0) l.row
