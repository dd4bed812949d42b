-- What is kept of a font: its tables, by their tags, and what they say.
use Rattle.std.specs.Prelude.{ℕ, List, Bool, [], length, nat_le, nat_lt, not, ◌&&◌, ◌≡◌, ◌/◌, ◌==◌, codes, unwrap_or, if◌then◌else◌, bit_and}
use Rattle.font_tables.specs.Bytes.{number_16, number_32, is_number}
use Rattle.font_tables.specs.Head.{units_per_em, glyph_count, index_to_loc_format}
use Rattle.font_tables.specs.IgnoredGdef.{is_ignored}
use Rattle.font_tables.specs.Extents.{long_metric_count, horizontal_extents}
use Rattle.font_tables.specs.declared.metrics.Metrics.{Metrics}
use Rattle.font_tables.specs.declared.directory.Tables.{Tables}
use Rattle.ot_lookups.specs.SubtableLimit.{is_refused}
use Rattle.font_cmap.specs.Choice.{chosen_subtable, chosen_encoding, variation_subtable}
use Rattle.font_colors.specs.Strikes.{wanted_size}
use Rattle.font_face.specs.declared.color.ColorTables.{ColorTables}
use Rattle.font_face.specs.Tables.{table_in}
use Rattle.font_face.specs.FaceVariations.{AreVariationsOf}
use Rattle.font_face.specs.declared.face.Face.{Face}
use Rattle.font_face.specs.declared.layout.Layout.{Layout}

-- the table with these letters in the font's directory
abbrev pub table : Face → List ℕ → List ℕ
table face letters = table_in face.tables letters

-- whether a table of lookups is read: one of version 1 holds its header, with the offset of feature variations from version 1.1 on,
-- and is not refused for its subtables
abbrev pub is_read : List ℕ → Bool
is_read table =
    if is_number (number_16 table 0) 1
    then nat_le (if is_number (number_16 table 2) 0 then 10 else 14) (length table) && not (is_refused table)
    else nat_lt 0 (unwrap_or (number_32 table 0) 0)

-- a table of lookups, if it is read
abbrev pub read_table : List ℕ → List ℕ
read_table table = if is_read table then table else []

-- these are the tables of lookups in a directory
pub record IsLayoutOf (layout : Layout) (tables : Tables) : Type 0 where
  pub substitutions : layout.gsub.now ≡ read_table (table_in tables (codes "GSUB"))
  pub positions : layout.gpos.now ≡ read_table (table_in tables (codes "GPOS"))
  pub kerning : layout.kern.now ≡ table_in tables (codes "kern")
  pub morx : layout.morx.now ≡ table_in tables (codes "morx")
  pub features : layout.feat.now ≡ table_in tables (codes "feat")
  pub tracking : layout.trak.now ≡ table_in tables (codes "trak")

-- these are the tables of bitmaps and of glyphs drawn in colours, of so many glyphs, with the strikes that fit a size best
pub record AreColorsOf (color : ColorTables) (tables : Tables) (glyphs size : ℕ) : Type 0 where
  pub graphics : color.sbix.table.now ≡ table_in tables (codes "sbix")
  pub counted : color.sbix.glyph_count ≡ glyphs
  pub graphic_size : color.sbix.wanted ≡ size
  pub places : color.cbdt.cblc.now ≡ table_in tables (codes "CBLC")
  pub images : color.cbdt.cbdt.now ≡ table_in tables (codes "CBDT")
  pub image_size : color.cbdt.wanted ≡ size
  pub clips : color.colr.table.now ≡ table_in tables (codes "COLR")

-- the table `GDEF`, unless it is one of those that are not believed, by their sizes
abbrev pub believed : List ℕ → List ℕ → List ℕ → List ℕ
believed gdef gsub gpos = if is_ignored (length gdef) (length gsub) (length gpos) then [] else gdef

-- the font page of a symbol font: the high byte of the selection flags of the first version of `OS/2`
abbrev pub font_page : List ℕ → ℕ
font_page os2 =
    if is_number (number_16 os2 0) 0 then bit_and (unwrap_or (number_16 os2 62) 0) 0xFF00 else 0

-- these are the metrics of a table and of its header
pub record AreMetricsOf (metrics : Metrics) (table header : List ℕ) (glyphs default : ℕ) : Type 0 where
  pub bytes : metrics.table.now ≡ table
  pub declared : metrics.declared ≡ long_metric_count header
  pub counted : metrics.glyph_count ≡ glyphs
  pub lacking : metrics.default_advance ≡ default

-- all that is kept of a font is what its tables say
pub record KeepsItsTables (face : Face) : Type 0 where
  pub units : face.units_per_em ≡ units_per_em (table face (codes "head"))
  pub glyphs : face.glyph_count ≡ glyph_count (table face (codes "maxp"))
  pub characters : face.characters.subtable.now ≡ chosen_subtable (table face (codes "cmap"))
  pub encoding :
      face.characters.encoding ≡ chosen_encoding (table face (codes "cmap")) (font_page (table face (codes "OS/2")))
  pub variations : face.characters.variations.now ≡ variation_subtable (table face (codes "cmap"))
  pub horizontal :
      AreMetricsOf face.horizontal (table face (codes "hmtx")) (table face (codes "hhea")) face.glyph_count
      (face.units_per_em / 2)
  pub vertical :
      AreMetricsOf face.vertical (table face (codes "vmtx")) (table face (codes "vhea")) face.glyph_count face.units_per_em
  pub vorg : face.vorg.table.now ≡ table face (codes "VORG")
  pub extents : face.extents ≡ horizontal_extents (table face (codes "OS/2")) (table face (codes "hhea"))
  pub layout : IsLayoutOf face.layout face.tables
  pub color :
      AreColorsOf face.color face.tables face.glyph_count (wanted_size face.scale.x_ppem face.scale.y_ppem)
  pub gdef :
      face.gdef.table.now
      ≡ believed (table face (codes "GDEF")) (read_table (table face (codes "GSUB"))) (read_table (table face (codes "GPOS")))
  pub outlines : face.outlines.glyf.glyf.now ≡ table face (codes "glyf")
  pub locations : face.outlines.glyf.loca.now ≡ table face (codes "loca")
  pub long_offsets :
      face.outlines.glyf.has_long_offsets ≡ not (index_to_loc_format (table face (codes "head")) == 0)
  pub outlined : face.outlines.glyf.glyph_count ≡ face.glyph_count
  pub positioned : face.has_gpos ≡ is_read (table face (codes "GPOS"))
  pub scaled : face.scale.units_per_em ≡ face.units_per_em
  pub varied : AreVariationsOf face.variations face.tables face.gdef.table.now
