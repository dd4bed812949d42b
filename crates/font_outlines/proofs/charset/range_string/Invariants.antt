use Rattle.std.proofs.Common.{◌≡◌, ◌<◌, Some}
use Rattle.font_outlines.specs.Charset.{named}
use Rattle.font_outlines.proofs.CharsetLemmas.{NoneBefore}
use Rattle.font_outlines.proofs.charset.range_string.Given as goal

-- so many glyphs are named by the ranges so far, of which none reaches the glyph
abbrev pub invariant-loop-row : goal.invariant-loop-row
invariant-loop-row l = record {
  so_far : named l.is_long l.charset l.row ≡ Some l.before;
  short : 0 < l.glyph → l.before < l.glyph;
  none : NoneBefore l.is_long l.charset l.glyph l.row;
}
