use Rattle.std.proofs.Common.{◌≡◌, ◌<◌, ◌-◌, ℕ, slice_index, length}
use Rattle.font_cmap.specs.Subtables.{some_glyph, groups_glyph}
use Rattle.font_cmap.proofs.groups.first_groups_glyphs.Given as goal

-- the glyphs so far are those of their codes
abbrev pub invariant-loop-code : goal.invariant-loop-code
invariant-loop-code l = record {
  long : length l.glyphs ≡ 128;
  found : (code : ℕ) → code < l.code → some_glyph (slice_index l.glyphs code) ≡ groups_glyph l.table l.format code;
}

abbrev pub decreases-loop-code : goal.decreases-loop-code
decreases-loop-code l = 128 - l.code
