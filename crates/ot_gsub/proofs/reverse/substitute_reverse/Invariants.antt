use Rattle.std.proofs.Common.{◌≡◌, ◌-◌, ◌<◌, false, length}
use Rattle.shaping_buffer.specs.KeepsClusters.{KeepsClusters}
use Rattle.ot_layout.specs.Budget.{IsNotMore}
use Rattle.ot_gsub.specs.Changes.{TellsChanges}
use Rattle.ot_gsub.specs.Nested.{Now, now_of}
use Rattle.ot_gsub.specs.Runs.{AreDoneBackward}
use Rattle.ot_gsub.proofs.reverse.substitute_reverse.Given as goal

-- where the glyphs that are left are done, all are
abbrev pub invariant-loop-turn : goal.invariant-loop-turn
invariant-loop-turn l = record {
  closed : l.buffer.have_output ≡ false;
  keeps : KeepsClusters l.fn.buffer l.buffer;
  spent : IsNotMore l.fn.progress.search.budget l.progress.search.budget;
  tells : TellsChanges l.fn.buffer l.fn.progress.has_changed l.buffer l.progress.has_changed;
  rest : 0 < l.progress.search.budget.steps → (new : Now)
      → AreDoneBackward l.substitutions l.lookup (length l.fn.buffer.input - l.turn) (now_of l.buffer l.progress) new
      → AreDoneBackward l.substitutions l.lookup (length l.fn.buffer.input) (now_of l.fn.buffer l.fn.progress) new;
}
