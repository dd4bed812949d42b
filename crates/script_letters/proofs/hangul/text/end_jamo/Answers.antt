use Rattle.std.proofs.Common.{ap, ◌∙◌}
use Rattle.shaping_buffer.specs.State.{State}
use Rattle.script_letters.specs.Hangul.{jamo_merged}
use Rattle.script_letters.proofs.hangul.text.end_jamo.Goals as goal

pub returns-clause-is : goal.returns-clause-is
returns-clause-is c =
    c.merge_jamo.ensures.is ∙ ap (λ (s : State). jamo_merged c.args.start s) c.number_jamo.ensures.is
