-- Value records: by how much a glyph is moved, and its advance changed.
use Rattle.std.specs.Prelude.{◌≡◌, ℕ, ℤ, pos, List, Option, None, Some, Bool, not, ◌&&◌, ◌||◌, ◌+◌, ◌*◌, ◌/◌, ◌%◌, nat_eq, nat_le, length}
use Rattle.std.specs.Prelude.{if◌then◌else◌, unwrap_or, false, FitsSigned}
use Rattle.std.specs.Ordering.{int_eq}
use Rattle.std.specs.Int.{w16, w32, cast_signed, int_wrapping_add, int_wrapping_sub}
use Rattle.std.specs.Int.Count.{ones}
use Rattle.font_tables.specs.Bytes.{number_16}
use Rattle.font_tables.specs.Scale.{em_scale}
use Rattle.font_variations.specs.VariationStore.{is_varied}
use Rattle.rb_glyph.specs.declared.position.GlyphPosition.{GlyphPosition}
use Rattle.ot_gpos_tables.specs.Corrections.{x_correction, y_correction}
use Rattle.ot_gpos_tables.specs.declared.instance.Instance.{Instance}
use Rattle.ot_gpos_tables.specs.declared.values.ValueRecord.{ValueRecord}

-- whether a format names the field of a bit, which is a power of 2
abbrev pub names : ℕ → ℕ → Bool
names format bit = nat_eq (format / bit % 2) 1

-- The field of a bit in the record at a place: before it stand the fields of the lower bits that the format names, two bytes
-- each. It is 0 where the format does not name it.
abbrev pub field : List ℕ → ℕ → ℕ → ℕ → ℕ
field table format bit at = if names format bit then unwrap_or (number_16 table (at + 2 * ones (format % bit))) 0 else 0

-- how many bytes a record has
abbrev pub record_size : ℕ → ℕ
record_size format = 2 * ones format

-- the fields of the record of a format at a place
unfoldable pub fields : List ℕ → ℕ → ℕ → ValueRecord
fields table format at = record {
  x_placement = cast_signed w16 (field table format 1 at);
  y_placement = cast_signed w16 (field table format 2 at);
  x_advance = cast_signed w16 (field table format 4 at);
  y_advance = cast_signed w16 (field table format 8 at);
  x_placement_device = field table format 16 at;
  y_placement_device = field table format 32 at;
  x_advance_device = field table format 64 at;
  y_advance_device = field table format 128 at;
}

-- the record that names nothing
abbrev pub no_values : ValueRecord
no_values = record {
  x_placement = pos 0;
  y_placement = pos 0;
  x_advance = pos 0;
  y_advance = pos 0;
  x_placement_device = 0;
  y_placement_device = 0;
  x_advance_device = 0;
  y_advance_device = 0;
}

-- the record of an advance to the right alone
abbrev pub across : ℤ → ValueRecord
across advance = record no_values { x_advance = advance }

-- the record of a format at a place; `None` unless the table holds all of it
unfoldable pub value_record : List ℕ → ℕ → ℕ → Option ValueRecord
value_record table format at =
    if nat_le (at + record_size format) (length table) then Some (fields table format at) else None

-- a number and its correction are added
abbrev pub plus : ℤ → ℤ → ℤ → ℤ
plus n length delta = int_wrapping_add w32 (int_wrapping_add w32 n length) delta

-- or subtracted
abbrev pub minus : ℤ → ℤ → ℤ → ℤ
minus n length delta = int_wrapping_sub w32 (int_wrapping_sub w32 n length) delta

-- a number across, and one upwards, moved by a value and its device table, whose offset is counted from the start of `base`
unfoldable pub moved_x : List ℕ → Instance → ℤ → ℕ → ℤ → ℤ
moved_x base instance value device n =
    plus n (em_scale value instance.scale.x instance.scale.units_per_em) (x_correction base device instance)

unfoldable pub moved_y : List ℕ → Instance → ℤ → ℕ → ℤ → ℤ
moved_y base instance value device n =
    plus n (em_scale value instance.scale.y instance.scale.units_per_em) (y_correction base device instance)

-- a number that is counted downwards
unfoldable pub moved_back : List ℕ → Instance → ℤ → ℕ → ℤ → ℤ
moved_back base instance value device n =
    minus n (em_scale value instance.scale.y instance.scale.units_per_em) (y_correction base device instance)

-- the position of a glyph that a record moves; of the advances only that along the line changes
abbrev pub moved : List ℕ → Instance → Bool → ValueRecord → GlyphPosition → GlyphPosition
moved base instance is_horizontal v p = record p {
  x_offset = moved_x base instance v.x_placement v.x_placement_device p.x_offset;
  y_offset = moved_y base instance v.y_placement v.y_placement_device p.y_offset;
  x_advance = if is_horizontal then moved_x base instance v.x_advance v.x_advance_device p.x_advance else p.x_advance;
  y_advance = if is_horizontal then p.y_advance else moved_back base instance v.y_advance v.y_advance_device p.y_advance;
}

-- whether corrections may be other than 0, where an em has so many pixels: it has some, or variations are chosen
abbrev pub has_corrections : Instance → ℕ → Bool
has_corrections instance ppem = not (nat_eq ppem 0) || is_varied instance.deltas

-- whether a value or its device table may move a number
abbrev pub may_move : Instance → ℕ → ℤ → ℕ → Bool
may_move instance ppem value device = not (int_eq value (pos 0)) || (not (nat_eq device 0) && has_corrections instance ppem)

-- whether a record may move a glyph of a horizontal or a vertical line, or change its advance
unfoldable pub has_effect : Instance → Bool → ValueRecord → Bool
has_effect instance is_horizontal v =
    may_move instance instance.scale.x_ppem v.x_placement v.x_placement_device
    || may_move instance instance.scale.y_ppem v.y_placement v.y_placement_device
    || (if is_horizontal then may_move instance instance.scale.x_ppem v.x_advance v.x_advance_device
    else may_move instance instance.scale.y_ppem v.y_advance v.y_advance_device)

-- where a record has no effect, a glyph stays where it is, and keeps its advance
abbrev pub EffectIsTold : Type 0
EffectIsTold =
    (instance : Instance) (is_horizontal : Bool) (v : ValueRecord) → has_effect instance is_horizontal v ≡ false
    → (base : List ℕ) (p : GlyphPosition) → FitsSigned w32 p.x_offset → FitsSigned w32 p.y_offset
    → FitsSigned w32 p.x_advance → FitsSigned w32 p.y_advance → moved base instance is_horizontal v p ≡ p
