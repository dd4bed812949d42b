use Rattle.std.proofs.Common.{◌≡◌, ◌+◌, ◌*◌, ◌<◌, Bool, true}
use Rattle.shaping_buffer.specs.KeepsClusters.{KeepsClusters}
use Rattle.ot_layout.specs.Budget.{IsNotMore}
use Rattle.ot_contexts.specs.MatchPositions.{match_of}
use Rattle.ot_gsub.specs.Nested.{IsFitDone, Now, now_of}
use Rattle.ot_gsub.specs.Turn.{nested}
use Rattle.ot_gsub.proofs.NestedLemmas.{Left}
use Rattle.ot_gsub.proofs.nested.+nested.Given as goal

-- where what is left of the records is done, all are
abbrev pub invariant-apply_fit-loop-index : goal.invariant-apply_fit-loop-index
invariant-apply_fit-loop-index l = record {
  opened : l.buffer.have_output ≡ true;
  keeps : KeepsClusters l.fn.buffer l.buffer;
  spent : IsNotMore l.fn.progress.search.budget l.progress.search.budget;
  rest : 0 < l.progress.search.budget.steps → (done : Bool) (new : Now)
      → Left (nested l.depth l.substitutions) l.fit.records.now l.index l.fit.record_count (match_of l.matched)
      (now_of l.buffer l.progress) done new
      → IsFitDone (nested l.depth l.substitutions) l.fit l.fn.progress.search.places.items
      (now_of l.fn.buffer l.fn.progress) done new;
}

abbrev pub decreases-apply_at : goal.decreases-apply_at
decreases-apply_at l = 8 * l.depth + 5

abbrev pub decreases-make : goal.decreases-make
decreases-make l = 8 * l.depth + 4

abbrev pub decreases-apply_fit : goal.decreases-apply_fit
decreases-apply_fit l = 8 * l.depth + 3

abbrev pub decreases-apply_record : goal.decreases-apply_record
decreases-apply_record l = 8 * l.depth + 2

abbrev pub decreases-apply_other : goal.decreases-apply_other
decreases-apply_other l = 8 * l.depth + 1
