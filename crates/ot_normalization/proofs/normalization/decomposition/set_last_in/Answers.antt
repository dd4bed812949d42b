use Rattle.shaping_buffer.proofs.ClosedKeepsLemmas.{keeps_with_out}
use Rattle.ot_normalization.proofs.normalization.decomposition.set_last_in.Goals as goal

pub returns-clause-keeps : goal.returns-clause-keeps
returns-clause-keeps c =
    keeps_with_out c.args.buffer.now c.set_last.new.infos c.out_info_mut.result.now
    c.out_info_mut.ensures.value c.set_last.ensures
