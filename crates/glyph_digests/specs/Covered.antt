-- Glyphs of a buffer in a coverage.
use Rattle.std.specs.Prelude.{ℕ, List, Option, None, nat_lt, if◌then◌else◌}
use Rattle.font_tables.specs.Coverage.{coverage_index}

-- the coverage index of a glyph of a buffer; none past 65,535
abbrev pub covered_index : List ℕ → ℕ → Option ℕ
covered_index coverage glyph = if nat_lt 65535 glyph then None else coverage_index coverage glyph
