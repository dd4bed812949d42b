use Rattle.std.proofs.Common.{ap, ◌∙◌}
use Rattle.shaping_buffer.specs.State.{State}
use Rattle.script_letters.specs.Thai.{last_marked}
use Rattle.script_letters.proofs.thai.sara_am.put_ring.Goals as goal

pub returns-clause-is : goal.returns-clause-is
returns-clause-is c =
    λ _. c.mark_last.ensures.is ∙ ap (λ (t : State). record t { out = last_marked t.out }) c.in_ok-output_glyph.ensures.meets.1
