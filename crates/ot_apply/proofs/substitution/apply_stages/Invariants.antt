use Rattle.std.proofs.Common.{◌≡◌, ◌<◌, drop, false}
use Rattle.glyph_digests.specs.Digest.{HasGlyphs}
use Rattle.ot_gsub.specs.Nested.{Now, now_of}
use Rattle.ot_apply.specs.ClusterOrder.{KeepsStage}
use Rattle.ot_apply.specs.Stages.{AreStagesDone}
use Rattle.ot_apply.proofs.substitution.apply_stages.Given as goal

-- where the stages that are left are done, all are
abbrev pub invariant-loop-stage : goal.invariant-loop-stage
invariant-loop-stage g l = record {
  closed : l.buffer.have_output ≡ false;
  keeps : KeepsStage l.plan.syllables l.fn.buffer l.buffer;
  unchanged : l.progress.has_changed ≡ false;
  met : HasGlyphs l.glyphs l.buffer.input;
  rest : 0 < l.progress.search.budget.steps → (new : Now)
      → AreStagesDone l.face l.plan (drop l.stage-index l.stages) l.start (now_of l.buffer l.progress) new
      → AreStagesDone l.face l.plan l.plan.shape.layout.stages.items 0 (now_of l.fn.buffer l.fn.progress) new;
}
