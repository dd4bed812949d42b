-- Bitmaps of the table `sbix` (OpenType specification, "sbix - Standard Bitmap Graphics Table").
use Rattle.std.specs.Prelude.{ℕ, zero, suc, pos, List, [], Bool, ◌&&◌, Option, Some, None, ◌+◌, ◌-◌, ◌*◌, ◌+ℤ◌, ◌-ℤ◌, codes, nat_le, nat_lt, length, take, drop, if◌then◌else◌}
use Rattle.std.specs.Prelude.{option_map, option_and_then, unwrap_or}
use Rattle.font_tables.specs.Bytes.{number_16, number_32, signed_16, table_at_32, is_number}
use Rattle.font_tables.specs.Rows.{rows_within}
use Rattle.rb_common.specs.Tag.{tag_of}
use Rattle.rb_glyph.specs.declared.names.GlyphExtents.{GlyphExtents}
use Rattle.font_colors.specs.declared.pixels.PixelBox.{PixelBox}
use Rattle.font_colors.specs.Strikes.{best_strike}

-- how many strikes there are, by the offsets of a table of a version from 1 on
abbrev pub strike_count : List ℕ → ℕ
strike_count sbix =
    if nat_lt 0 (unwrap_or (number_16 sbix 0) 0) then rows_within sbix 8 4 (unwrap_or (number_32 sbix 4) 0) else 0

-- a strike, and how many pixels an em has in one
abbrev pub strike_at : List ℕ → ℕ → List ℕ
strike_at sbix strike = unwrap_or (table_at_32 sbix (8 + 4 * strike)) []

abbrev pub ppem : List ℕ → ℕ
ppem strike = unwrap_or (number_16 strike 0) 0

abbrev pub strike_size : List ℕ → ℕ → ℕ
strike_size sbix strike = ppem (strike_at sbix strike)

-- the strike that fits a size best
abbrev pub strike_of : List ℕ → ℕ → List ℕ
strike_of sbix wanted =
    if nat_lt 0 (strike_count sbix)
    then strike_at sbix (best_strike (strike_size sbix) wanted (strike_count sbix)) else []

-- the data between two offsets, if they have more than what stands before the graphic itself, and all of them lie in the table
abbrev pub data_between : List ℕ → ℕ → ℕ → Option (List ℕ)
data_between strike start end =
    if nat_lt (start + 8) end && nat_le end (length strike) then Some (take (end - start) (drop start strike)) else None

-- the data of a glyph in a strike, of as many as the font has: from its offset up to the next one
abbrev pub glyph_data : List ℕ → ℕ → ℕ → Option (List ℕ)
glyph_data strike count glyph =
    if nat_lt glyph count
    then option_and_then (λ start. option_and_then (λ end. data_between strike start end) (number_32 strike (4 * glyph + 8)))
    (number_32 strike (4 * glyph + 4)) else None

-- whether data are of a type
abbrev pub is_of_type : List ℕ → ℕ → Bool
is_of_type bs type = is_number (number_32 bs 4) type

-- the data of a glyph that are a graphic: those of the glyph that they name in its place, and of no more than so many glyphs
unfoldable pub graphic : List ℕ → ℕ → ℕ → ℕ → Option (List ℕ)
graphic strike count zero glyph = None
graphic strike count (suc more) glyph =
    option_and_then (λ bs. if is_of_type bs (tag_of (codes "dupe"))
    then option_and_then (graphic strike count more) (number_16 bs 8) else Some bs) (glyph_data strike count glyph)

-- the width and the height that a PNG says in its header: 0 where that is cut short
abbrev pub png_number : List ℕ → ℕ → ℕ
png_number bs at = if nat_le 37 (length bs) then unwrap_or (number_32 bs at) 0 else 0

abbrev pub png_width : List ℕ → ℕ
png_width bs = png_number bs 24

abbrev pub png_height : List ℕ → ℕ
png_height bs = png_number bs 28

-- the box of a graphic, from the offset of its left and lower corner
abbrev pub png_box : List ℕ → GlyphExtents
png_box bs = record {
  x_bearing = unwrap_or (signed_16 bs 0) (pos 0);
  y_bearing = pos (png_height bs) +ℤ unwrap_or (signed_16 bs 2) (pos 0);
  width = pos (png_width bs);
  height = pos 0 -ℤ pos (png_height bs);
}

-- the box of a PNG that is not larger than 16 bits can say
abbrev pub graphic_box : List ℕ → Option GlyphExtents
graphic_box bs =
    if is_of_type bs (tag_of (codes "png ")) && (nat_lt (png_width bs) 65536 && nat_lt (png_height bs) 65536)
    then Some (png_box bs) else None

-- the box of a glyph in the strike that fits a size best
unfoldable pub sbix_box : List ℕ → ℕ → ℕ → ℕ → Option PixelBox
sbix_box sbix count wanted glyph =
    let strike = strike_of sbix wanted in
    if nat_lt 0 (ppem strike)
    then option_map (λ found. record { extents = found; x_ppem = ppem strike; y_ppem = ppem strike })
    (option_and_then graphic_box (graphic strike count 9 glyph)) else None
