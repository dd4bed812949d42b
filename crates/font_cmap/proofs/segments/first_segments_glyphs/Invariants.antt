use Rattle.std.proofs.Common.{◌≡◌, ◌<◌, ◌-◌, ℕ, slice_index, length}
use Rattle.font_cmap.specs.Subtables.{some_glyph, segments_glyph}
use Rattle.font_cmap.proofs.segments.first_segments_glyphs.Given as goal

-- the glyphs so far are those of their codes
abbrev pub invariant-loop-code : goal.invariant-loop-code
invariant-loop-code l = record {
  long : length l.glyphs ≡ 128;
  found : (code : ℕ) → code < l.code → some_glyph (slice_index l.glyphs code) ≡ segments_glyph l.segments.table.now code;
}

abbrev pub decreases-loop-code : goal.decreases-loop-code
decreases-loop-code l = 128 - l.code
