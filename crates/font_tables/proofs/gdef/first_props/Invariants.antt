use Rattle.std.proofs.Common.{◌≡◌, ◌<◌, ◌-◌, ℕ, slice_index, length}
use Rattle.font_tables.specs.ClassDefinition.{class_of}
use Rattle.font_tables.specs.Gdef.{props}
use Rattle.font_tables.proofs.gdef.first_props.Given as goal

-- the properties so far are those of their glyphs
abbrev pub invariant-loop-glyph : goal.invariant-loop-glyph
invariant-loop-glyph l = record {
  long : length l.props ≡ 256;
  found : (glyph : ℕ) → glyph < l.glyph → slice_index l.props glyph
      ≡ props (class_of l.classes.table.now glyph) (class_of l.attachments.table.now glyph);
}

abbrev pub decreases-loop-glyph : goal.decreases-loop-glyph
decreases-loop-glyph l = 256 - l.glyph
