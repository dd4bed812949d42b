use Rattle.std.proofs.Common.{◌≡◌, length}
use Rattle.shape_glyphs.proofs.glyph_line.read_glyphs.Given as goal

abbrev pub invariant-loop-item : goal.invariant-loop-item
invariant-loop-item g l = length l.read.positions.items ≡ length l.read.infos.items
