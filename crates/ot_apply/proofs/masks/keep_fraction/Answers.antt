use Rattle.std.proofs.Common.{length, ap, ◌∙◌}
use Rattle.shaping_buffer.specs.State.{State}
use Rattle.ot_apply.proofs.FractionLemmas.{length-unsafe_to_break}
use Rattle.ot_apply.proofs.masks.keep_fraction.Goals as goal

pub returns-clause-length : goal.returns-clause-length
returns-clause-length c =
    ap (λ (t : State). length t.input) c.unsafe_to_break.ensures.is
    ∙ length-unsafe_to_break c.args.start c.args.end c.args.buffer.now
