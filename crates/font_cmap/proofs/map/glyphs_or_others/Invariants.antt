use Rattle.std.proofs.Common.{◌≡◌, ◌<◌, ℕ, slice_index, length}
use Rattle.font_cmap.specs.Codes.{glyph_index}
use Rattle.font_cmap.specs.Subtables.{some_glyph}
use Rattle.font_cmap.proofs.map.glyphs_or_others.Given as goal

-- the glyphs so far are those of their characters
abbrev pub invariant-loop-character : goal.invariant-loop-character
invariant-loop-character l = record {
  long : length l.glyphs ≡ 128;
  found : (character : ℕ) → character < l.character
      → some_glyph (slice_index l.glyphs character) ≡ glyph_index l.codes.subtable.segments.table.now l.codes.encoding character;
}
