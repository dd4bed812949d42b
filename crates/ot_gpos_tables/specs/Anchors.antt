-- Anchors: points of glyphs, at which others are attached.
use Rattle.std.specs.Prelude.{ℕ, ℤ, List, Option, None, Some, ◌+◌, ◌*◌, ◌&&◌, ◌||◌, ◌-ℤ◌, nat_eq, nat_le, nat_lt, length, []}
use Rattle.std.specs.Prelude.{if◌then◌else◌, unwrap_or, pos, option_and_then, option_map}
use Rattle.std.specs.Option.{option_map_or}
use Rattle.std.specs.Int.{w32, int_wrapping_add, int_wrapping_sub}
use Rattle.font_tables.specs.Bytes.{number_16, signed_16, table_at_16, is_number}
use Rattle.font_tables.specs.Scale.{distance}
use Rattle.font_tables.specs.declared.scale.Scale.{Scale}
use Rattle.ot_gpos_tables.specs.Corrections.{x_correction, y_correction}
use Rattle.ot_gpos_tables.specs.declared.instance.Instance.{Instance}
use Rattle.ot_gpos_tables.specs.declared.anchors.Anchor.{Anchor}
use Rattle.ot_gpos_tables.specs.declared.contour_points.ContourPoint.{ContourPoint}

-- how many bytes an anchor of this format has
abbrev pub anchor_size : ℕ → ℕ
anchor_size format = if nat_eq format 1 then 6 else if nat_eq format 2 then 8 else 10

-- the offset of a device table at a place; only format 3 has any
abbrev pub device_offset : List ℕ → ℕ → ℕ → ℕ
device_offset table format at = if nat_eq format 3 then unwrap_or (number_16 table at) 0 else 0

-- the signed number at a place, and 0 outside of the table
unfoldable pub coordinate : List ℕ → ℕ → ℤ
coordinate table at = unwrap_or (signed_16 table at) (pos 0)

-- the anchor of a known format: two numbers of font units, and their corrections; one that is cut short is none
abbrev pub known_anchor : List ℕ → ℕ → Instance → Option Anchor
known_anchor table format instance =
    if nat_le (anchor_size format) (length table) then Some (record {
      x = coordinate table 2;
      y = coordinate table 4;
      x_delta = x_correction table (device_offset table format 6) instance;
      y_delta = y_correction table (device_offset table format 8) instance;
    }) else None

-- the point of the outline that format 2 names, where glyphs are drawn in pixels
abbrev pub named_point : List ℕ → Scale → Option ℕ
named_point table scale =
    if is_number (number_16 table 0) 2 && (nat_lt 0 scale.x_ppem || nat_lt 0 scale.y_ppem) then number_16 table 6 else None

-- an anchor at a point, in the directions that have pixels
abbrev pub at_point : Anchor → Scale → ContourPoint → Anchor
at_point own scale point = record {
  x = if nat_lt 0 scale.x_ppem then pos 0 else own.x;
  y = if nat_lt 0 scale.y_ppem then pos 0 else own.y;
  x_delta = if nat_lt 0 scale.x_ppem then point.x else own.x_delta;
  y_delta = if nat_lt 0 scale.y_ppem then point.y else own.y_delta;
}

-- an anchor of this format, which in format 2 is at the point where there is one
abbrev pub moved_to : Anchor → ℕ → Scale → Option ContourPoint → Anchor
moved_to own format scale point = if nat_eq format 2 then option_map_or (at_point own scale) point own else own

-- the anchor in a table, where the font knows this point of the outline; one of an unknown format is the origin
unfoldable pub anchor : List ℕ → Instance → Option ContourPoint → Option Anchor
anchor table instance point = option_and_then (λ format.
    if nat_le 1 format && nat_le format 3
    then option_map (λ own. moved_to own format instance.scale point) (known_anchor table format instance)
    else Some (record { x = pos 0; y = pos 0; x_delta = pos 0; y_delta = pos 0 })) (number_16 table 0)

-- where a number of font units is at a size, with its correction
abbrev pub placed : ℤ → ℤ → ℤ → ℕ → ℤ
placed n delta size units_per_em = int_wrapping_add w32 (distance n size units_per_em) delta

-- from one number of font units to another, with their corrections
abbrev pub between : ℤ → ℤ → ℤ → ℤ → ℤ → ℕ → ℤ
between from from_delta to to_delta size units_per_em =
    int_wrapping_sub w32 (int_wrapping_add w32 (distance (to -ℤ from) size units_per_em) to_delta) from_delta

-- the table of anchors in a row and a column of a matrix, which begins with the number of its rows
abbrev pub anchor_in : List ℕ → ℕ → ℕ → ℕ → Option (List ℕ)
anchor_in matrix row column columns =
    if nat_lt row (unwrap_or (number_16 matrix 0) 0) && nat_lt column columns
    then table_at_16 matrix (2 + 2 * (row * columns + column)) else None

-- the class of a mark, and the table of its anchor, in an array of marks; a mark that the array does not have is of class 0
abbrev pub mark_class : List ℕ → ℕ → ℕ
mark_class marks index =
    if nat_lt index (unwrap_or (number_16 marks 0) 0) then unwrap_or (number_16 marks (2 + 4 * index)) 0 else 0

abbrev pub mark_anchor : List ℕ → ℕ → List ℕ
mark_anchor marks index =
    if nat_lt index (unwrap_or (number_16 marks 0) 0) then unwrap_or (table_at_16 marks (4 + 4 * index)) [] else []

-- the matrix of a ligature: a row for each of its components
abbrev pub ligature_matrix : List ℕ → ℕ → Option (List ℕ)
ligature_matrix ligatures index =
    if nat_lt index (unwrap_or (number_16 ligatures 0) 0) then table_at_16 ligatures (2 + 2 * index) else None
