use Rattle.std.proofs.Common.{◌≡◌, ◌+◌, drop}
use Rattle.ot_gsub.specs.Ligatures.{followers}
use Rattle.ot_gsub.proofs.ligation.followers.Given as goal

abbrev pub invariant-loop-glyph : goal.invariant-loop-glyph
invariant-loop-glyph l = record {
  all : l.count ≡ l.glyph-index;
  rest : l.count + followers l.components (drop l.glyph-index l.glyphs) ≡ followers l.components l.glyphs;
}
