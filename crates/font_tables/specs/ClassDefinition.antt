-- Class definition tables: a class for each glyph.
use Rattle.std.specs.Prelude.{ℕ, List, Option, None, ◌+◌, ◌-◌, ◌*◌, if◌then◌else◌, nat_eq, nat_le, nat_lt, unwrap_or}
use Rattle.std.specs.Prelude.{option_and_then}
use Rattle.font_tables.specs.Bytes.{number_16}
use Rattle.font_tables.specs.GlyphRanges.{range_value, range_of}

-- format 1: the classes of so many glyphs, from a first glyph on
abbrev pub listed_class : List ℕ → ℕ → Option ℕ
listed_class table glyph =
    option_and_then (λ first. option_and_then (λ count.
    if nat_le first glyph then if nat_lt (glyph - first) count then number_16 table (6 + 2 * (glyph - first)) else None else None)
    (number_16 table 4)) (number_16 table 2)

-- format 2: a range has the class of its glyphs
abbrev pub ranged_class : List ℕ → ℕ → Option ℕ
ranged_class table glyph = option_and_then (range_value table) (range_of table glyph)

-- the class of a glyph: 0 where the table names none, or is of another format
unfoldable pub class_of : List ℕ → ℕ → ℕ
class_of table glyph =
    let format = unwrap_or (number_16 table 0) 0 in
    if nat_eq format 1 then unwrap_or (listed_class table glyph) 0
    else if nat_eq format 2 then unwrap_or (ranged_class table glyph) 0 else 0
