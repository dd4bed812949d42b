use Rattle.std.proofs.Common.{refl}
use Rattle.shaping_buffer.proofs.ClosedKeepsLemmas.{keeps_with_input}
use Rattle.aat_substitution.proofs.writing.replace_at.Goals as goal

pub returns : goal.returns
returns c = record {
  left = refl;
  keeps = keeps_with_input c.args.buffer.now c.set_glyph.new.glyphs c.info_slice_mut.result.now c.info_slice_mut.ensures.value
      c.set_glyph.ensures.clusters;
}
