use Rattle.std.proofs.Common.{arith}
use Rattle.std.proofs.lemmas.Grind.{common_steps}
use Rattle.aat_substitution.proofs.InsertionLemmas.{take-written_behind}
use Rattle.aat_substitution.proofs.insertion.glyphs_behind.Goals as goal

pub loop-place-preserved : goal.loop-place-preserved
loop-place-preserved c = record {
  len = grind (arith, common_steps, c.loop-place.invariant.len);
  so_far =
      take-written_behind c.args.inserted.now.glyphs.now c.loop-place.glyphs c.loop-place.place c.from.result c.args.glyph
      c.glyph_at.result c.from.ensures
      (omega (arith, c.loop-place.invariant.len, c.loop-place-test.true, c.min-place-end.ensures)) c.glyph_at.ensures
      c.loop-place.invariant.so_far;
}
