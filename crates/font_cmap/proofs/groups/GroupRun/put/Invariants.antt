use Rattle.std.proofs.Common.{◌≡◌, ◌<◌, ◌≤◌, ℕ, slice_index, length}
use Rattle.font_cmap.specs.Runs.{glyph_of_group}
use Rattle.font_cmap.specs.Subtables.{some_glyph}
use Rattle.font_cmap.proofs.groups.GroupRun.put.Given as goal

-- the glyphs from the start on are those of their codes, and those before it stay
abbrev pub invariant-loop-code : goal.invariant-loop-code
invariant-loop-code l = record {
  long : length l.glyphs ≡ 128;
  before : (code : ℕ) → code < l.start → slice_index l.glyphs code ≡ slice_index l.initial.glyphs code;
  put : (code : ℕ) → l.start ≤ code → code < l.code → some_glyph (slice_index l.glyphs code) ≡ glyph_of_group l.format code l.self.group;
}
