use Rattle.std.proofs.Common.{◌≡◌, ◌<◌, true}
use Rattle.shaping_buffer.specs.KeepsClusters.{KeepsClusters}
use Rattle.ot_layout.specs.Budget.{IsNotMore}
use Rattle.ot_gsub.specs.Changes.{TellsChanges}
use Rattle.ot_gsub.specs.Nested.{now_of}
use Rattle.ot_gsub.specs.Runs.{HasDone}
use Rattle.ot_gsub.specs.Singles.{HasMoved, IsForNext, IsLevel, IsSingle}
use Rattle.ot_gsub.proofs.substitution.substitute_rest.Given as goal

abbrev pub invariant-loop-turn : goal.invariant-loop-turn
invariant-loop-turn l = record {
  opened : l.buffer.have_output ≡ true;
  keeps : KeepsClusters l.fn.buffer l.buffer;
  spent : IsNotMore l.fn.progress.search.budget l.progress.search.budget;
  tells : TellsChanges l.fn.buffer l.fn.progress.has_changed l.buffer l.progress.has_changed;
  moves : 0 < l.progress.search.budget.steps → IsSingle l.substitutions l.applied.lookup.now l.fn.buffer → IsLevel l.fn.buffer
      → IsForNext l.substitutions l.applied.lookup.now l.fn.buffer → HasMoved l.substitutions l.applied.lookup.now l._turn l.fn.buffer l.buffer;
  done : 0 < l.progress.search.budget.steps → IsForNext l.substitutions l.applied.lookup.now l.fn.buffer
      → HasDone l.substitutions l.applied.lookup.now l._turn (now_of l.fn.buffer l.fn.progress) (now_of l.buffer l.progress);
}
