use Rattle.std.proofs.Common.{◌≤◌, ◌*◌}
use Rattle.font_tables.proofs.StringLemmas.{Starts}
use Rattle.font_tables.proofs.glyph_names.string_starts.Given as goal

-- the strings so far begin where the list says, and the next one at `at`
abbrev pub invariant-loop-row : goal.invariant-loop-row
invariant-loop-row l = record {
  bound : l.at ≤ 256 * l._row;
  starts : Starts l.strings l.starts.items l._row l.at;
}
