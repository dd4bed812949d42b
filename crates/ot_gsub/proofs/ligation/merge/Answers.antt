use Rattle.std.proofs.Common.{ap, ◌∙◌, length}
use Rattle.shaping_buffer.specs.State.{State}
use Rattle.shaping_buffer.proofs.GroupStepLemmas.{length_merged}
use Rattle.ot_gsub.proofs.ligation.merge.Goals as goal

pub returns-clause-same_length : goal.returns-clause-same_length
returns-clause-same_length c =
    ap (λ (s : State). length s.input) c.merge_clusters.ensures.is
    ∙ length_merged c.idx-start.result c.min.result c.args.buffer.now
