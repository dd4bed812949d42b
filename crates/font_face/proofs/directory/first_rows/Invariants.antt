use Rattle.std.proofs.Common.{ℕ, ◌≡◌, ◌<◌, ◌≤◌, ◌%◌, true, slice_index, length}
use Rattle.font_tables.specs.Directory.{record_has}
use Rattle.font_face.proofs.directory.first_rows.Given as goal

-- no record so far stands before the one in the slot of its tag
abbrev pub invariant-loop-row : goal.invariant-loop-row
invariant-loop-row l = record {
  long : length l.rows ≡ 103;
  firsts : (row tag : ℕ) → row < l.row → record_has l.file l.directory tag row ≡ true → slice_index l.rows (tag % 103) ≤ row;
}
