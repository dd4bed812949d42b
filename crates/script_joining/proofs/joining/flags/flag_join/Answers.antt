use Rattle.std.proofs.Common.{ap, ◌∙◌}
use Rattle.shaping_buffer.specs.State.{State}
use Rattle.script_joining.specs.Flags.{flagged_behind}
use Rattle.script_joining.proofs.joining.flags.flag_join.Goals as goal

pub returns-clause-is : goal.returns-clause-is
returns-clause-is c =
    let last = c.args.last.now in
    c.flag_behind.ensures.is
    ∙ ap (λ (s : State). flagged_behind last.place last.heeds_next c.args.own c.args.end s) c.flag_formed.ensures.is
