use Rattle.shaping_buffer.proofs.ClosedKeepsLemmas.{keeps_with_input}
use Rattle.script_universal.proofs.universal.recorded.forget_substitutions.Goals as goal

pub returns : goal.returns
returns c = record {
  closed = c.requires;
  keeps = keeps_with_input c.args.buffer.now c.forget_all.new.infos c.info_slice_mut.result.now c.info_slice_mut.ensures.value
      c.forget_all.ensures.same;
}
