-- Where a glyph's outline lies, and the box that its header names (OpenType specification, `loca` and `glyf`).
use Rattle.std.specs.Prelude.{ℕ, ℤ, pos, Bool, ◌&&◌, List, [], Option, None, ◌+◌, ◌-◌, ◌*◌, ◌-ℤ◌, length, take, drop, nat_eq, nat_le, nat_lt, if◌then◌else◌}
use Rattle.std.specs.Prelude.{option_map, option_and_then, unwrap_or}
use Rattle.std.specs.Int.{int_min, int_max}
use Rattle.rb_glyph.specs.declared.names.GlyphExtents.{GlyphExtents}
use Rattle.font_tables.specs.Bytes.{number_16, number_32, signed_16}
use Rattle.outline_tables.specs.declared.glyf.OutlineKind.{OutlineKind}
use Rattle.outline_tables.specs.declared.glyf.OutlineKind.TheVariants.{Empty, Simple, Composite}

-- the offset of a number in `loca`, in bytes: offsets of 16 bits count pairs of bytes
abbrev pub location : List ℕ → Bool → ℕ → Option ℕ
location loca is_long n =
    if is_long then number_32 loca (4 * n) else option_map (λ pairs. 2 * pairs) (number_16 loca (2 * n))

-- the bytes from a place up to another one, of which there are none unless the places are in order and in the table
abbrev pub between : List ℕ → ℕ → ℕ → List ℕ
between bs start end =
    if nat_le start end && nat_le end (length bs) then take (end - start) (drop start bs) else []

-- the outline of a glyph: from its location up to the next one
abbrev pub outline : List ℕ → List ℕ → Bool → ℕ → Option (List ℕ)
outline glyf loca is_long glyph =
    option_and_then (λ start. option_map (λ end. between glyf start end) (location loca is_long (glyph + 1)))
    (location loca is_long glyph)

-- a glyph without an outline has an empty box at its origin
abbrev pub empty_box : GlyphExtents
empty_box = record { x_bearing = pos 0; y_bearing = pos 0; width = pos 0; height = pos 0 }

-- the box between two corners: its left side is the glyph's left side bearing, where the font has one
abbrev pub box_between : Option ℤ → ℤ → ℤ → ℤ → ℤ → GlyphExtents
box_between bearing x_min y_min x_max y_max = record {
  x_bearing = unwrap_or bearing (int_min x_min x_max);
  y_bearing = int_max y_min y_max;
  width = int_max x_min x_max -ℤ int_min x_min x_max;
  height = int_min y_min y_max -ℤ int_max y_min y_max;
}

-- the box that the header of an outline names: the number of contours, then the corners
unfoldable pub header_box : List ℕ → Option ℤ → Option GlyphExtents
header_box header bearing =
    option_and_then (λ x_min. option_and_then (λ y_min. option_and_then (λ x_max. option_map (λ y_max.
    box_between bearing x_min y_min x_max y_max)
    (signed_16 header 8)) (signed_16 header 6)) (signed_16 header 4)) (signed_16 header 2)

-- whether an outline has contours, of its own or of the glyphs that it is made of
abbrev pub has_contours : List ℕ → Bool
has_contours header = nat_lt 0 (unwrap_or (number_16 header 0) 0)

-- what an outline is, by its number of contours: it has none, or so many, or a negative number, where it is put together of other glyphs
abbrev pub outline_kind : List ℕ → OutlineKind
outline_kind header =
    let contours = unwrap_or (number_16 header 0) 0 in
    if nat_eq contours 0 then Empty else if nat_lt contours 0x8000 then Simple contours else Composite

-- the box of an outline
abbrev pub outline_box : List ℕ → Option ℤ → GlyphExtents
outline_box header bearing =
    if has_contours header then unwrap_or (header_box header bearing) empty_box else empty_box

-- the box of a glyph, of which the font has so many
abbrev pub glyf_extents : List ℕ → List ℕ → Bool → ℕ → ℕ → Option ℤ → Option GlyphExtents
glyf_extents glyf loca is_long count glyph bearing =
    if nat_lt glyph count then option_map (λ bs. outline_box bs bearing) (outline glyf loca is_long glyph) else None
