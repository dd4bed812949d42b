-- What a context by coverages asks of the glyph after the one at the cursor, among the coverages of a list.
use Rattle.std.specs.Prelude.{ℕ, ◌≡◌, ◌+◌, ◌*◌, ◌<◌, Bool, true, false, List, Some, slice_get, unwrap_or, if◌then◌else◌}
use Rattle.font_tables.specs.Bytes.{number_16}
use Rattle.font_tables.specs.declared.coverage.Coverage.{Coverage}
use Rattle.ot_lookups.specs.SubtableKinds.{is_chained}
use Rattle.ot_lookups.specs.declared.subtable.NextAsked.{NextAsked}
use Rattle.ot_lookups.specs.declared.subtable.Subtable.{Subtable}

-- how many coverages a context has before the cursor: none where it is not chained
abbrev pub backtrack_number : Bool → List ℕ → ℕ
backtrack_number is_chained table = if is_chained then unwrap_or (number_16 table 2) 0 else 0

-- how many it has for its input
abbrev pub input_number : Bool → List ℕ → ℕ
input_number is_chained table =
    if is_chained then unwrap_or (number_16 table (4 + 2 * backtrack_number true table)) 0 else unwrap_or (number_16 table 2) 0

-- how many it has after its input: none where it is not chained
abbrev pub lookahead_number : Bool → List ℕ → ℕ
lookahead_number is_chained table =
    if is_chained
    then unwrap_or (number_16 table (4 + 2 * backtrack_number true table + 2 + 2 * input_number true table)) 0 else 0

-- the coverage that is asked for after the cursor is the second of the input, or where the input has no second one, the first after
-- it; the coverages of the context begin at a place of the list
pub record IsNextAt (coverages : List Coverage) (first : ℕ) (is_chained : Bool) (table : List ℕ) (next : NextAsked) : Type 0 where
  pub two : next.is_input ≡ true → 1 < input_number is_chained table
  pub second : next.is_input ≡ true
      → slice_get coverages (first + (backtrack_number is_chained table + 1)) ≡ Some next.coverage
  pub few : next.is_input ≡ false → input_number is_chained table < 2
  pub some : next.is_input ≡ false → 0 < lookahead_number is_chained table
  pub lookahead : next.is_input ≡ false
      → slice_get coverages (first + (backtrack_number is_chained table + input_number is_chained table)) ≡ Some next.coverage

-- so is what a subtable asks for, if it asks for anything there
abbrev pub IsNextOf : List Coverage → Subtable → Type 0
IsNextOf coverages subtable =
    (next : NextAsked) → subtable.next ≡ Some next
    → IsNextAt coverages subtable.first_coverage (is_chained subtable.kind) subtable.table.now next
