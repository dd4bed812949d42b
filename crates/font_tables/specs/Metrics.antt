-- Advances and side bearings of glyphs, as HarfBuzz reads them.
use Rattle.std.specs.Prelude.{ℕ, ℤ, Option, None, Bool, ◌+◌, ◌-◌, ◌*◌, ◌/◌, ◌&&◌, min, if◌then◌else◌, nat_eq, nat_le, nat_lt, length, unwrap_or}
use Rattle.font_tables.specs.declared.metrics.Metrics.{Metrics}
use Rattle.font_tables.specs.Bytes.{number_16, signed_16}
use Rattle.font_tables.specs.MetricRows.{long_count, bearing_count}

-- whether a glyph has an advance in the table
abbrev pub has_bearing : Metrics → ℕ → Bool
has_bearing m glyph = nat_lt glyph (bearing_count m.table.now m.declared m.glyph_count)

-- the advance of a glyph: that of its row, and that of the last row for those behind it. Where the font has no rows, and
-- no bytes behind those of its glyphs, it is the default, and for a glyph that the table does not reach 0
unfoldable pub advance : Metrics → ℕ → ℕ
advance m glyph =
    let long = long_count m.table.now m.declared in
    if has_bearing m glyph then unwrap_or (number_16 m.table.now (4 * min glyph (long - 1))) 0
    else if nat_eq long 0 && nat_le (length m.table.now / 2) m.glyph_count then m.default_advance else 0

-- the side bearing of a glyph, at the left or at the top
unfoldable pub side_bearing : Metrics → ℕ → Option ℤ
side_bearing m glyph =
    let long = long_count m.table.now m.declared in
    if has_bearing m glyph
    then if nat_lt glyph long then signed_16 m.table.now (4 * glyph + 2)
    else signed_16 m.table.now (4 * long + 2 * (glyph - long))
    else None
