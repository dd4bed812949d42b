-- What the outlines of a font say of a glyph.
use Rattle.std.specs.Prelude.{ℕ, ℤ, List, Option}
use Rattle.rb_glyph.specs.declared.names.GlyphExtents.{GlyphExtents}
use Rattle.font_outlines.specs.declared.cff.CffTable.{CffTable}
use Rattle.font_outlines.specs.declared.outlines.Outlines.{Outlines}
use Rattle.outline_tables.specs.Glyf.{glyf_extents}
use Rattle.font_outlines.specs.Cff.{glyph_name}

-- the box of a glyph by the tables `glyf` and `loca`
abbrev pub glyf_box : Outlines → ℕ → Option ℤ → Option GlyphExtents
glyf_box outlines glyph bearing =
    glyf_extents outlines.glyf.glyf.now outlines.glyf.loca.now outlines.glyf.has_long_offsets outlines.glyf.glyph_count glyph bearing

-- the name of a glyph by the table `CFF `
abbrev pub cff_name : CffTable → ℕ → Option (List ℕ)
cff_name cff glyph = glyph_name cff.charset.now cff.strings.now cff.is_cid cff.glyph_count glyph
