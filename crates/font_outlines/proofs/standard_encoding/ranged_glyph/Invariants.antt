use Rattle.std.proofs.Common.{◌<◌, ◌^◌}
use Rattle.font_outlines.proofs.standard_encoding.ranged_glyph.Given as goal

-- the first glyph of the range is among the glyphs of the font
abbrev pub invariant-loop-row : goal.invariant-loop-row
invariant-loop-row l = l.glyph < 2 ^ 16
