use Rattle.std.proofs.Common.{◌≡◌, ◌<◌, ◌≤◌, ℕ, slice_index, length}
use Rattle.font_tables.specs.ClassDefinition.{class_of}
use Rattle.font_tables.specs.Gdef.{props}
use Rattle.font_tables.specs.Run.{value_in}
use Rattle.font_tables.proofs.gdef.put_marks.Given as goal

-- the properties from the start on are those of their glyphs, and those before it stay
abbrev pub invariant-loop-glyph : goal.invariant-loop-glyph
invariant-loop-glyph l = record {
  long : length l.props ≡ 256;
  before : (glyph : ℕ) → glyph < l.start → slice_index l.props glyph ≡ slice_index l.initial.props glyph;
  put : (glyph : ℕ) → l.start ≤ glyph → glyph < l.glyph → slice_index l.props glyph
      ≡ props (value_in l.run glyph) (class_of l.attachments.table.now glyph);
}
