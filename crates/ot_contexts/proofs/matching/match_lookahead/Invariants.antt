use Rattle.std.proofs.Common.{◌≡◌, ◌==◌, ◌+◌, ◌-◌, ◌<◌, ◌≤◌, length, Some}
use Rattle.ot_layout.specs.Budget.{IsNotMore}
use Rattle.ot_contexts.specs.Match.{next_place, steps_from}
use Rattle.ot_contexts.specs.Rule.{sequence_matcher}
use Rattle.ot_contexts.proofs.matching.match_lookahead.Given as goal
use Rattle.ot_layout.specs.ApplyContext.{context_iterator}

abbrev pub invariant-loop-index : goal.invariant-loop-index
invariant-loop-index l = record {
  within : l.place < length l.ctx.input.now;
  backtrack : l.end ≤ l.place + 1;
  spent : IsNotMore l.fn.search.budget l.search.budget;
  reach : l.search.reach ≡ l.fn.search.reach;
  places : l.search.places ≡ l.fn.search.places;
  steps : steps_from (λ matcher place. next_place (context_iterator l.ctx (l.end == 1)) matcher l.ctx.input.now place)
      (sequence_matcher l.part) (l.end - 1) l.index
      ≡ Some l.place;
}
