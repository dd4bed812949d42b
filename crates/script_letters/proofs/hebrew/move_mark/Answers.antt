use Rattle.std.proofs.Common.{◌+◌, ◌-◌, ap, ◌∙◌}
use Rattle.shaping_buffer.specs.State.{State}
use Rattle.script_items.specs.Moves.{moved}
use Rattle.script_letters.specs.Hebrew.{mark_moved}
use Rattle.script_letters.proofs.hebrew.move_mark.Goals as goal

pub returns-clause-is : goal.returns-clause-is
unfolding mark_moved
returns-clause-is c =
    let place = c.args.place in
    c.move_back.ensures.is
    ∙ ap (λ (t : State). record t { input = moved (place - 1) place (place + 1) t.input }) c.merge.ensures.is
