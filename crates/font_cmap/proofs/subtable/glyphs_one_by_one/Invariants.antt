use Rattle.std.proofs.Common.{◌≡◌, ◌<◌, ℕ, slice_index, length}
use Rattle.font_cmap.specs.Subtables.{some_glyph, subtable_glyph}
use Rattle.font_cmap.proofs.subtable.glyphs_one_by_one.Given as goal

-- the glyphs so far are those of their codes
abbrev pub invariant-loop-code : goal.invariant-loop-code
invariant-loop-code l = record {
  long : length l.glyphs ≡ 128;
  found : (code : ℕ) → code < l.code → some_glyph (slice_index l.glyphs code) ≡ subtable_glyph l.subtable.segments.table.now code;
}
