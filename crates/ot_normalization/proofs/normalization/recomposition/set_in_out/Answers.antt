use Rattle.shaping_buffer.proofs.ClosedKeepsLemmas.{keeps_with_out}
use Rattle.ot_normalization.proofs.normalization.recomposition.set_in_out.Goals as goal

pub returns-clause-keeps : goal.returns-clause-keeps
returns-clause-keeps g c =
    keeps_with_out c.args.buffer.now c.set_at.new.infos c.out_info_mut.result.now
    c.out_info_mut.ensures.value c.set_at.ensures
