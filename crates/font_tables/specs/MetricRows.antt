-- The rows of a table `hmtx` or `vmtx`.
use Rattle.std.specs.Prelude.{ℕ, List, ◌+◌, ◌-◌, ◌*◌, ◌/◌, min, max, if◌then◌else◌, nat_eq, length}
use Rattle.font_tables.specs.Rows.{rows_within}

-- how many of the declared advances, each with a side bearing, lie in the table
abbrev pub long_count : List ℕ → ℕ → ℕ
long_count table declared = rows_within table 0 4 declared

-- how many glyphs have a side bearing: those with an advance, and one for each two bytes behind them, up to the number of
-- glyphs; none where no glyph has an advance
abbrev pub bearing_count : List ℕ → ℕ → ℕ → ℕ
bearing_count table declared glyphs =
    let long = long_count table declared in
    if nat_eq long 0 then 0 else min (max glyphs long) (long + (length table - 4 * long) / 2)
