-- The table `GDEF`: classes of glyphs, and sets of marks.
use Rattle.std.specs.Prelude.{ℕ, List, [], Bool, ◌+◌, ◌*◌, ◌%◌, ◌&&◌, not, if◌then◌else◌, nat_eq, nat_le, nat_lt, unwrap_or}
use Rattle.font_tables.specs.Bytes.{number_16, table_at_16, table_at_32, is_number}
use Rattle.font_tables.specs.ClassDefinition.{class_of}

-- the subtable that the offset at a place leads to, in a table of the major version 1; an empty one where there is none
abbrev pub subtable : List ℕ → ℕ → List ℕ
subtable gdef at = if is_number (number_16 gdef 0) 1 then unwrap_or (table_at_16 gdef at) [] else []

-- whether the table says that it has classes of glyphs
unfoldable pub has_glyph_classes : List ℕ → Bool
has_glyph_classes gdef = is_number (number_16 gdef 0) 1 && not (nat_eq (unwrap_or (number_16 gdef 4) 0) 0)

abbrev pub glyph_classes : List ℕ → List ℕ
glyph_classes gdef = subtable gdef 4

-- the class of a glyph: 1 for a base, 2 for a ligature, 3 for a mark, 4 for a component
unfoldable pub glyph_class : List ℕ → ℕ → ℕ
glyph_class gdef glyph = class_of (glyph_classes gdef) glyph

abbrev pub mark_attachment_classes : List ℕ → List ℕ
mark_attachment_classes gdef = subtable gdef 10

-- the class of a mark that lookups choose marks by
unfoldable pub mark_attachment_class : List ℕ → ℕ → ℕ
mark_attachment_class gdef glyph = class_of (mark_attachment_classes gdef) glyph

-- the sets of marks, since version 1.2
abbrev pub mark_glyph_sets : List ℕ → List ℕ
mark_glyph_sets gdef = if nat_le 2 (unwrap_or (number_16 gdef 2) 0) then subtable gdef 12 else []

-- the coverage table of a set of marks; an empty one where there is no such set
abbrev pub set_in : List ℕ → ℕ → List ℕ
set_in sets set =
    if is_number (number_16 sets 0) 1 && nat_lt set (unwrap_or (number_16 sets 2) 0)
    then unwrap_or (table_at_32 sets (4 + 4 * set)) [] else []

unfoldable pub mark_glyph_set : List ℕ → ℕ → List ℕ
mark_glyph_set gdef set = set_in (mark_glyph_sets gdef) set

-- HarfBuzz's properties: bit 1 of a base, bit 2 of a ligature, bit 3 of a mark with its attachment class eight bits higher
abbrev pub props : ℕ → ℕ → ℕ
props class attachment =
    if nat_eq class 1 then 2 else if nat_eq class 2 then 4 else if nat_eq class 3 then 8 + 256 * (attachment % 256) else 0

unfoldable pub glyph_props : List ℕ → ℕ → ℕ
glyph_props gdef glyph = props (glyph_class gdef glyph) (mark_attachment_class gdef glyph)
