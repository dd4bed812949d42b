use Rattle.std.proofs.Common.{ap, ◌∙◌, length, Some}
use Rattle.shaping_buffer.specs.State.{State}
use Rattle.shaping_buffer.specs.ClusterStep.{unsafe_to_break_from_outbuffer}
use Rattle.ot_gsub.proofs.EditsLemmas.{length-mark_all}
use Rattle.ot_gsub.proofs.multiplication.mark_all.Goals as goal

pub returns-clause-same_length : goal.returns-clause-same_length
returns-clause-same_length c =
    ap (λ (t : State). length t.input) c.unsafe_to_break_from_outbuffer.ensures.is
    ∙ ap (λ k. length (unsafe_to_break_from_outbuffer (Some 0) (Some k) c.args.buffer.now).input) c.len-end.ensures.len
    ∙ length-mark_all c.args.buffer.now
