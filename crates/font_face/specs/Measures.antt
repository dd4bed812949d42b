-- The measures of glyphs at the size at which a font is used.
use Rattle.std.specs.Prelude.{ℕ, ℤ, Bool, List, Option, Some, None, pos, neg_ℤ, length, codes, not, ◌+ℤ◌, ◌-ℤ◌, ◌*ℤ◌, ◌==◌, ◌||◌, int_div, int_lt, option_map, if◌then◌else◌}
use Rattle.std.specs.Float.{floor, ceil, float_to_signed}
use Rattle.std.specs.Float.Ieee.{Float, add, mul, div, of_int, binary32}
use Rattle.std.specs.Int.{int_rem_euclid, int_shr, int_wrapping_add, int_wrapping_neg, int_wrapping_sub, saturate_signed, w32}
use Rattle.std.specs.Option.{option_map_or}
use Rattle.rb_common.specs.Tag.{tag_of}
use Rattle.rb_glyph.specs.declared.names.GlyphExtents.{GlyphExtents}
use Rattle.font_tables.specs.declared.extents.FontExtents.{FontExtents}
use Rattle.font_tables.specs.declared.metrics.Metrics.{Metrics}
use Rattle.font_tables.specs.declared.scale.Scale.{Scale}
use Rattle.font_tables.specs.Metrics.{advance, has_bearing, side_bearing}
use Rattle.font_tables.specs.Scale.{em_scale}
use Rattle.font_tables.specs.VerticalOrigins.{y_origin}
use Rattle.font_variations.specs.MetricsVariations.{advance_delta, origin_delta}
use Rattle.font_variations.specs.Rounding.{rounded}
use Rattle.font_variations.specs.ValueVariations.{value_delta}
use Rattle.font_variations.specs.declared.metrics_variations.MetricsVariations.{MetricsVariations}
use Rattle.font_colors.specs.Cbdt.{cbdt_box}
use Rattle.font_colors.specs.Colr.{clip_box}
use Rattle.font_colors.specs.Pixels.{in_units}
use Rattle.font_colors.specs.Sbix.{sbix_box}
use Rattle.outline_tables.specs.Glyf.{glyf_extents}
use Rattle.font_face.specs.declared.color.ColorTables.{ColorTables}
use Rattle.font_face.specs.declared.face.Face.{Face}

-- a number by its lowest 16 bits, of which the highest is a sign
abbrev pub short : ℤ → ℤ
short units = int_rem_euclid (units +ℤ pos 32768) (pos 65536) -ℤ pos 32768

-- by how much the advance of a glyph changes at coordinates, in font units: by the table `HVAR` or `VVAR`
abbrev pub advance_change : Option MetricsVariations → ℕ → List ℤ → ℤ
advance_change None glyph coordinates = pos 0
advance_change (Some metrics) glyph coordinates = advance_delta metrics.table.now glyph coordinates

-- an advance in font units: by the table `hmtx` or `vmtx`, and where variations are chosen by `HVAR` or `VVAR` too, for the glyphs
-- that the first one reaches
abbrev pub varied_units : Metrics → Option MetricsVariations → ℕ → List ℤ → ℤ
varied_units metrics variations glyph coordinates =
    let units = pos (advance metrics glyph) in
    if (length coordinates == 0) || not (has_bearing metrics glyph) then units
    else saturate_signed w32 (units +ℤ advance_change variations glyph coordinates)

-- how far a glyph moves the pen to the right in horizontal lines, and down in vertical ones, in font units
abbrev pub hor_units : Face → ℕ → ℤ
hor_units face glyph = varied_units face.horizontal face.variations.horizontal glyph face.variations.coordinates.items

abbrev pub ver_units : Face → ℕ → ℤ
ver_units face glyph = varied_units face.vertical face.variations.vertical glyph face.variations.coordinates.items

-- how far a glyph moves the pen to the right in horizontal lines, at the size of the font
abbrev pub hor_advance : Face → ℕ → ℤ
hor_advance face glyph = em_scale (short (hor_units face glyph)) face.scale.x face.scale.units_per_em

-- how far lines reach where the font does not say it: four fifths of an em are above the baseline
abbrev pub extents_of_em : ℤ → FontExtents
extents_of_em em = record { ascender = int_div (em *ℤ pos 4) (pos 5); descender = int_div (em *ℤ pos 4) (pos 5) -ℤ em }

-- how long a font unit is where an em has this length
unfoldable pub multiplier : ℤ → Scale → Float
multiplier size scale = div binary32 (of_int binary32 size) (of_int binary32 (pos scale.units_per_em))

-- how long so many font units are
unfoldable pub scaled : ℤ → Float → Float
scaled units multiplier = mul binary32 (of_int binary32 (short units)) multiplier

-- the whole numbers beside a float; one that is past 32 bits is the nearest number of as many bits
unfoldable pub whole_below : Float → ℤ
whole_below number = float_to_signed w32 (floor binary32 number)

unfoldable pub whole_above : Float → ℤ
whole_above number = float_to_signed w32 (ceil binary32 number)

-- where bounds begin on an axis, and how far they reach from there: to the whole units around them
unfoldable pub scaled_start : ℤ → Float → ℤ
scaled_start bearing multiplier = whole_below (scaled bearing multiplier)

unfoldable pub scaled_size : ℤ → ℤ → Float → ℤ
scaled_size bearing size multiplier =
    int_wrapping_sub w32 (whole_above (scaled (int_wrapping_add w32 bearing size) multiplier)) (scaled_start bearing multiplier)

-- bounds in font units at a size (HarfBuzz, `scale_glyph_extents`)
unfoldable pub scaled_bounds : GlyphExtents → Scale → GlyphExtents
scaled_bounds extents scale =
    let across = multiplier scale.x scale in
    let up = multiplier scale.y scale in
    record {
      x_bearing = scaled_start extents.x_bearing across;
      y_bearing = scaled_start extents.y_bearing up;
      width = scaled_size extents.x_bearing extents.width across;
      height = scaled_size extents.y_bearing extents.height up;
    }

-- the bounds of a glyph's bitmap, or else the box that its colours are clipped to; a bitmap's pixels become font units before they
-- are brought to the size, and in `CBDT` after that
abbrev pub color_bounds : ColorTables → ℕ → List ℤ → Scale → Option GlyphExtents
color_bounds color glyph coordinates scale =
    let sbix = sbix_box color.sbix.table.now color.sbix.glyph_count color.sbix.wanted glyph in
    let cbdt = cbdt_box color.cbdt.cblc.now color.cbdt.cbdt.now color.cbdt.wanted glyph in
    let clip = option_map (λ clip. scaled_bounds clip scale) (clip_box color.colr.table.now glyph coordinates) in
    option_map_or (λ bitmap. Some (scaled_bounds (in_units bitmap scale.units_per_em) scale)) sbix
    (option_map_or (λ bitmap. Some (in_units (record {
      extents = scaled_bounds bitmap.extents scale;
      x_ppem = bitmap.x_ppem;
      y_ppem = bitmap.y_ppem;
    }) scale.units_per_em)) cbdt clip)

-- a height of the whole font at its size, with the change of the number with this tag (`MVAR`)
abbrev pub varied_height : Face → ℤ → ℕ → ℤ
varied_height face units tag =
    let delta = value_delta face.variations.values.table.now tag face.variations.coordinates.items in
    rounded (mul binary32 (add binary32 (of_int binary32 units) delta) (multiplier face.scale.y face.scale))

-- how far horizontal lines reach up and down
unfoldable pub line_extents : Face → FontExtents
line_extents face = option_map_or (λ extents. record {
  ascender = varied_height face extents.ascender (tag_of (codes "hasc"));
  descender = varied_height face extents.descender (tag_of (codes "hdsc"));
})
    face.extents (extents_of_em face.scale.y)

abbrev pub line_height : FontExtents → ℤ
line_height extents = int_wrapping_sub w32 extents.ascender extents.descender

-- how far a glyph moves the pen up in vertical lines: back by its advance
unfoldable pub back_by_units : Face → ℕ → ℤ
back_by_units face glyph =
    em_scale (short (saturate_signed w32 (neg_ℤ (ver_units face glyph)))) face.scale.y face.scale.units_per_em

-- or by the height of a line in a font without `vmtx`
unfoldable pub back_by_line : Face → ℤ
back_by_line face = int_wrapping_neg w32 (line_height (line_extents face))

unfoldable pub has_vertical_metrics : Face → Bool
has_vertical_metrics face = has_bearing face.vertical 0

abbrev pub ver_advance : Face → ℕ → ℤ
ver_advance face glyph =
    if has_vertical_metrics face then back_by_units face glyph else back_by_line face

-- a y coordinate of the table `VORG`, in font units, with the change by the table `VVAR` where variations are chosen
abbrev pub varied_origin : ℤ → Option MetricsVariations → ℕ → List ℤ → Float
varied_origin y None glyph coordinates = of_int binary32 y
varied_origin y (Some metrics) glyph coordinates =
    if length coordinates == 0 then of_int binary32 y
    else add binary32 (of_int binary32 y) (origin_delta metrics.table.now glyph coordinates)

-- how far up a glyph's origin in vertical lines stands that the table `VORG` has
abbrev pub listed_origin : Face → ℤ → ℕ → ℤ
listed_origin face y glyph =
    let units = varied_origin y face.variations.vertical glyph face.variations.coordinates.items in
    rounded (mul binary32 units (multiplier face.scale.y face.scale))

-- how far up it stands by the bounds of the glyph's outline: its top side bearing above them, or else so that they stand in the
-- middle of the line; a glyph without an outline hangs from the font's ascender
abbrev pub origin_by : Face → Option GlyphExtents → Option ℤ → ℤ
origin_by face None bearing = (line_extents face).ascender
origin_by face (Some outline) (Some bearing) =
    int_wrapping_add w32 (scaled_bounds outline face.scale).y_bearing (em_scale bearing face.scale.y face.scale.units_per_em)
origin_by face (Some outline) None =
    let bounds = scaled_bounds outline face.scale in
    int_wrapping_add w32 bounds.y_bearing (int_shr (int_wrapping_add w32 (line_height (line_extents face)) bounds.height) 1)

-- how far up a glyph's origin in vertical lines stands where no variations are chosen: by `VORG`, or else by its outline in `glyf`
-- and its bearing in `vmtx`
abbrev pub ver_origin : Face → ℕ → ℤ
ver_origin face glyph =
    let glyf = face.outlines.glyf in
    let outline = glyf_extents glyf.glyf.now glyf.loca.now glyf.has_long_offsets glyf.glyph_count glyph (side_bearing face.horizontal glyph) in
    option_map_or (λ y. listed_origin face y glyph) (y_origin face.vorg.table.now glyph)
    (origin_by face outline (side_bearing face.vertical glyph))

-- a distance to the nearest whole number; another one where that is not above 0
abbrev pub distance_or : Float → ℤ → ℤ
distance_or distance other = if int_lt (pos 0) (rounded distance) then rounded distance else other
