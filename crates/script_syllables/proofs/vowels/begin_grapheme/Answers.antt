use Rattle.shaping_buffer.proofs.ClosedKeepsLemmas.{keeps_with_out}
use Rattle.script_syllables.proofs.vowels.begin_grapheme.Goals as goal

pub returns : goal.returns
returns c = record {
  opened = c.requires;
  keeps = keeps_with_out c.args.buffer.now c.begin_with_last.new.infos c.out_info_mut.result.now c.out_info_mut.ensures.value
      c.begin_with_last.ensures;
}
