-- Bitmaps of the tables `CBLC` and `CBDT` (OpenType specification, "CBLC - Color Bitmap Location Table" and "CBDT - Color Bitmap
-- Data Table").
use Rattle.std.specs.Prelude.{ℕ, pos, List, Bool, ◌||◌, ◌&&◌, Option, Some, None, ◌+◌, ◌-◌, ◌*◌, ◌-ℤ◌, max, nat_le, nat_lt, length, take, drop, if◌then◌else◌}
use Rattle.std.specs.Prelude.{option_map, option_and_then, unwrap_or}
use Rattle.std.specs.Int.{w8, cast_signed}
use Rattle.font_tables.specs.Bytes.{byte_at, number_16, number_32, table_at_32, is_number}
use Rattle.font_tables.specs.Rows.{first_below, rows_within}
use Rattle.rb_glyph.specs.declared.names.GlyphExtents.{GlyphExtents}
use Rattle.font_colors.specs.declared.pixels.PixelBox.{PixelBox}
use Rattle.font_colors.specs.Strikes.{best_strike}

-- both tables are of the major version 2 or 3
abbrev pub is_known : List ℕ → Bool
is_known table = is_number (number_16 table 0) 2 || is_number (number_16 table 0) 3

-- how many strikes there are, of 48 bytes each, and how many pixels an em has in one
abbrev pub strike_count : List ℕ → ℕ
strike_count cblc = if is_known cblc then rows_within cblc 8 48 (unwrap_or (number_32 cblc 4) 0) else 0

abbrev pub ppem_x : List ℕ → ℕ → ℕ
ppem_x cblc strike = unwrap_or (byte_at cblc (52 + 48 * strike)) 0

abbrev pub ppem_y : List ℕ → ℕ → ℕ
ppem_y cblc strike = unwrap_or (byte_at cblc (53 + 48 * strike)) 0

abbrev pub strike_size : List ℕ → ℕ → ℕ
strike_size cblc strike = max (ppem_x cblc strike) (ppem_y cblc strike)

-- the records of a strike's glyphs, each with its first glyph, its last one, and where their images are said
abbrev pub records : List ℕ → ℕ → List ℕ
records cblc strike = drop (unwrap_or (number_32 cblc (8 + 48 * strike)) 0) cblc

abbrev pub record_count : List ℕ → ℕ → ℕ
record_count cblc strike = rows_within (records cblc strike) 0 8 (unwrap_or (number_32 cblc (16 + 48 * strike)) 0)

abbrev pub first_glyph : List ℕ → ℕ → ℕ
first_glyph records row = unwrap_or (number_16 records (8 * row)) 0

abbrev pub holds : List ℕ → ℕ → ℕ → Bool
holds records glyph row =
    nat_le (first_glyph records row) glyph && nat_le glyph (unwrap_or (number_16 records (8 * row + 2)) 0)

-- where the image of a glyph begins, and that of the next one: an offset of 32 or of 16 bits
abbrev pub image_offset : List ℕ → ℕ → Option ℕ
image_offset subtable place =
    if is_number (number_16 subtable 0) 1 then number_32 subtable (8 + 4 * place)
    else if is_number (number_16 subtable 0) 3 then number_16 subtable (8 + 2 * place) else None

-- the bytes of an image between two offsets, if there are any, and all of them lie in the table
abbrev pub image_between : List ℕ → List ℕ → ℕ → ℕ → Option (List ℕ)
image_between subtable cbdt start end =
    let base = unwrap_or (number_32 subtable 4) 0 in
    if nat_lt start end && nat_le (base + end) (length cbdt) then Some (take (end - start) (drop (base + start) cbdt)) else None

abbrev pub image : List ℕ → List ℕ → ℕ → Option (List ℕ)
image subtable cbdt place =
    option_and_then (λ start. option_and_then (λ end. image_between subtable cbdt start end) (image_offset subtable (place + 1)))
    (image_offset subtable place)

-- how many bytes stand before the image: small metrics or big ones, and how long it is
abbrev pub head_size : List ℕ → Option ℕ
head_size subtable =
    if is_number (number_16 subtable 2) 17 then Some 9 else if is_number (number_16 subtable 2) 18 then Some 12 else None

-- the box that the metrics say: the height, the width, and the side bearings to the left and to the top
abbrev pub byte : List ℕ → ℕ → ℕ
byte bs i = unwrap_or (byte_at bs i) 0

abbrev pub metrics_box : List ℕ → GlyphExtents
metrics_box metrics = record {
  x_bearing = cast_signed w8 (byte metrics 2);
  y_bearing = cast_signed w8 (byte metrics 3);
  width = pos (byte metrics 1);
  height = pos 0 -ℤ pos (byte metrics 0);
}

-- the box of an image that is not shorter than what stands before it
abbrev pub image_box : List ℕ → List ℕ → ℕ → Option GlyphExtents
image_box subtable cbdt place =
    option_and_then (λ size. option_and_then (λ bs. if nat_le size (length bs) then Some (metrics_box bs) else None)
    (image subtable cbdt place)) (head_size subtable)

-- the box of a glyph in a strike: by the first record that holds it
unfoldable pub box_in_strike : List ℕ → List ℕ → ℕ → ℕ → Option GlyphExtents
box_in_strike cblc cbdt strike glyph =
    let rows = records cblc strike in
    option_and_then (λ row. option_and_then (λ subtable. image_box subtable cbdt (glyph - first_glyph rows row))
    (table_at_32 rows (8 * row + 4))) (first_below (holds rows glyph) (record_count cblc strike))

-- the strike that fits a size best
abbrev pub strike_of : List ℕ → ℕ → ℕ
strike_of cblc wanted = best_strike (strike_size cblc) wanted (strike_count cblc)

-- the box of a glyph in that strike, if an em has pixels there
abbrev pub has_pixels : List ℕ → ℕ → Bool
has_pixels cblc strike = nat_lt 0 (ppem_x cblc strike) && nat_lt 0 (ppem_y cblc strike)

unfoldable pub cbdt_box : List ℕ → List ℕ → ℕ → ℕ → Option PixelBox
cbdt_box cblc cbdt wanted glyph =
    let strike = strike_of cblc wanted in
    if is_known cbdt && (nat_lt 0 (strike_count cblc) && has_pixels cblc strike)
    then option_map (λ found. record { extents = found; x_ppem = ppem_x cblc strike; y_ppem = ppem_y cblc strike })
    (box_in_strike cblc cbdt strike glyph) else None
