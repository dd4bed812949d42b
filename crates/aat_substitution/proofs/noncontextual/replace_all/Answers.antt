use Rattle.std.proofs.Common.{refl}
use Rattle.shaping_buffer.proofs.ClosedKeepsLemmas.{keeps_with_input}
use Rattle.aat_substitution.proofs.noncontextual.replace_all.Goals as goal

pub returns-clause-stays : goal.returns-clause-stays
returns-clause-stays c = record {
  left = refl;
  keeps = keeps_with_input c.args.buffer.now c.replace_each.new.glyphs c.info_slice_mut.result.now c.info_slice_mut.ensures.value
      c.replace_each.ensures.clusters;
}
