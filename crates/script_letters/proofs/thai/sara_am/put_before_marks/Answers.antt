use Rattle.std.proofs.Common.{◌-◌, ap, ◌∙◌}
use Rattle.shaping_buffer.specs.State.{State}
use Rattle.script_items.specs.Moves.{moved}
use Rattle.script_letters.specs.Thai.{ring_moved}
use Rattle.script_letters.proofs.thai.sara_am.put_before_marks.Goals as goal

pub returns-clause-is : goal.returns-clause-is
unfolding ring_moved
returns-clause-is c =
    c.move_out_back.ensures.is
    ∙ ap (λ (t : State). record t { out = moved c.args.start (c.args.end - 2) (c.args.end - 1) t.out }) c.merge_out.ensures.is
