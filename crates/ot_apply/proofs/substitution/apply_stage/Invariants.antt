use Rattle.std.proofs.Common.{◌≡◌, ◌<◌, drop, false}
use Rattle.ot_layout.specs.Budget.{IsNotMore}
use Rattle.ot_gsub.specs.Nested.{Now, now_of}
use Rattle.shaping_buffer.specs.KeepsClusters.{KeepsClusters}
use Rattle.ot_apply.specs.Stages.{AreRuns, HasSeen}
use Rattle.ot_apply.proofs.substitution.apply_stage.Given as goal

-- where the lookups that are left are run, all are
abbrev pub invariant-loop-planned : goal.invariant-loop-planned
invariant-loop-planned g l = record {
  closed : l.buffer.have_output ≡ false;
  keeps : KeepsClusters l.fn.buffer l.buffer;
  spent : IsNotMore l.fn.progress.search.budget l.progress.search.budget;
  seen : HasSeen l.glyphs l.progress.has_changed l.buffer;
  rest : 0 < l.progress.search.budget.steps → (new : Now)
      → AreRuns l.face (drop l.planned-index l.lookups) (now_of l.buffer l.progress) new
      → AreRuns l.face l.lookups (now_of l.fn.buffer l.fn.progress) new;
}
