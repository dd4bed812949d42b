use Rattle.std.proofs.Common.{◌≡◌, ◌≤◌, length, Some}
use Rattle.ot_layout.specs.Budget.{IsNotMore}
use Rattle.ot_contexts.specs.Match.{previous_place, steps_from}
use Rattle.ot_contexts.specs.Rule.{sequence_matcher}
use Rattle.ot_contexts.proofs.matching.match_backtrack.Given as goal
use Rattle.ot_layout.specs.ApplyContext.{context_iterator}

abbrev pub invariant-loop-index : goal.invariant-loop-index
invariant-loop-index l = record {
  within : l.place ≤ length l.ctx.out.now;
  spent : IsNotMore l.fn.search.budget l.search.budget;
  reach : l.search.reach ≡ l.fn.search.reach;
  places : l.search.places ≡ l.fn.search.places;
  steps : steps_from (λ matcher place. previous_place (context_iterator l.ctx l.ctx.is_level) matcher l.ctx.out.now place)
      (sequence_matcher l.part) (length l.ctx.out.now) l.index
      ≡ Some l.place;
}
