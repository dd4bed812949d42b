-- Boxes that glyphs drawn in colours are clipped to (OpenType specification, "COLR - Color Table", "ClipList table").
use Rattle.std.specs.Prelude.{ℕ, ℤ, List, [], Bool, false, Option, Some, None, ◌+◌, ◌*◌, ◌%◌, ◌^◌, ◌-ℤ◌, nat_eq, nat_lt, length, drop, if◌then◌else◌}
use Rattle.std.specs.Prelude.{option_map, option_and_then, unwrap_or}
use Rattle.std.specs.Int.{saturate_signed, w32}
use Rattle.std.specs.Float.{float_to_signed}
use Rattle.std.specs.Float.Ieee.{add, binary32, of_int}
use Rattle.font_tables.specs.Bytes.{byte_at, number_16, number_24, number_32, signed_16, table_at_32, is_number}
use Rattle.font_tables.specs.Rows.{first_row, rows_within, is_within}
use Rattle.font_variations.specs.IndexMap.{index_of}
use Rattle.font_variations.specs.Rounding.{rounded}
use Rattle.font_variations.specs.VariationStore.{delta}
use Rattle.outline_tables.specs.Glyf.{empty_box}
use Rattle.rb_glyph.specs.declared.names.GlyphExtents.{GlyphExtents}

-- the table that an offset of 32 bits of a version from 1 on leads to
abbrev pub part_at : List ℕ → ℕ → List ℕ
part_at colr at = if nat_lt 0 (unwrap_or (number_16 colr 0) 0) then unwrap_or (table_at_32 colr at) [] else []

abbrev pub clip_list : List ℕ → List ℕ
clip_list colr = part_at colr 22

-- its records, of seven bytes each: a first glyph, a last one, and where their box is
abbrev pub clip_count : List ℕ → ℕ
clip_count list = rows_within list 5 7 (unwrap_or (number_32 list 1) 0)

abbrev pub last_glyph : List ℕ → ℕ → Option ℕ
last_glyph list row = number_16 list (7 + 7 * row)

-- the record of a glyph: the first that reaches it, if it holds it
abbrev pub clip_of : List ℕ → ℕ → Option ℕ
clip_of list glyph =
    option_and_then (λ row. if is_within (number_16 list (5 + 7 * row)) glyph then Some row else None)
    (first_row (last_glyph list) glyph (clip_count list))

-- the bytes of its box, of which there are none where the offset is 0
abbrev pub clip_bytes : List ℕ → ℕ → List ℕ
clip_bytes list row =
    let offset = unwrap_or (number_24 list (9 + 7 * row)) 0 in if nat_eq offset 0 then [] else drop offset list

-- the delta set of a corner, by the number of the first one: the number of no variation stays
abbrev pub delta_set : ℕ → ℕ → ℕ
delta_set first corner = if nat_eq first 0xFFFFFFFF then first else (first + corner) % 2 ^ 32

-- a number with a delta, which is rounded first
abbrev pub moved : ℤ → ℕ → List ℕ → List ℤ → ℤ
moved number set colr coordinates =
    float_to_signed w32 (add binary32 (of_int binary32 number)
    (of_int binary32 (rounded (delta (part_at colr 30) (index_of (part_at colr 26) set) coordinates))))

-- whether a box varies: one of the format 2, where variations are chosen
abbrev pub varies : List ℕ → List ℤ → Bool
varies box coordinates = if is_number (byte_at box 0) 2 then nat_lt 0 (length coordinates) else false

-- a side of a box: the left one, the lower one, the right one or the upper one
abbrev pub side : List ℕ → List ℕ → List ℤ → ℕ → Option ℤ
side box colr coordinates corner =
    if varies box coordinates
    then option_and_then (λ first. option_map (λ number. moved number (delta_set first corner) colr coordinates)
    (signed_16 box (1 + 2 * corner))) (number_32 box 9)
    else signed_16 box (1 + 2 * corner)

-- the box between its sides
abbrev pub distance : ℤ → ℤ → ℤ
distance from to = saturate_signed w32 (to -ℤ from)

abbrev pub box_between : ℤ → ℤ → ℤ → ℤ → GlyphExtents
box_between left low right top = record {
  x_bearing = left;
  y_bearing = top;
  width = distance left right;
  height = distance top low;
}

abbrev pub box_of_sides : List ℕ → List ℕ → List ℤ → Option GlyphExtents
box_of_sides box colr coordinates =
    option_and_then (λ left. option_and_then (λ low. option_and_then (λ right. option_map (λ top.
    box_between left low right top)
    (side box colr coordinates 3)) (side box colr coordinates 2)) (side box colr coordinates 1)) (side box colr coordinates 0)

-- a box of an unknown format is empty
abbrev pub box_of : List ℕ → List ℕ → List ℤ → Option GlyphExtents
box_of box colr coordinates =
    if is_number (byte_at box 0) 1 then box_of_sides box colr coordinates
    else if is_number (byte_at box 0) 2 then box_of_sides box colr coordinates else Some empty_box

-- the box of a glyph
unfoldable pub clip_box : List ℕ → ℕ → List ℤ → Option GlyphExtents
clip_box colr glyph coordinates =
    option_and_then (λ row. box_of (clip_bytes (clip_list colr) row) colr coordinates) (clip_of (clip_list colr) glyph)
