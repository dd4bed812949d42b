use Rattle.std.proofs.Common.{ap, ◌∙◌}
use Rattle.shaping_buffer.specs.State.{State}
use Rattle.script_joining.specs.declared.joining.kind.JoiningType.{JoiningType}
use Rattle.script_joining.specs.Flags.{flagged_before, flagged_formed}
use Rattle.script_joining.proofs.joining.flags.flag_end.Goals as goal

pub returns-clause-is : goal.returns-clause-is
returns-clause-is c =
    let last = c.args.last.now in
    c.flag_before.ensures.is
    ∙ ap (λ (s : State). flagged_before last.place last.heeds_next c.args.behind s)
    (c.flag_formed.ensures.is
    ∙ ap (λ (next : JoiningType). flagged_formed last.formed_by last.place next c.args.buffer.now) c.unwrap_or-next.ensures)
