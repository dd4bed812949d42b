use Rattle.std.proofs.Common.{◌≡◌, ◌<◌, Bool, true, List, Ok, ap, arith, refl, subst, sym, ◌∙◌}
use Rattle.glyph_digests.specs.Digest.{HasGlyphs}
use Rattle.ot_layout.specs.declared.search.Search.{Search}
use Rattle.ot_map.specs.declared.plan.Stage.{Stage}
use Rattle.shaping_buffer.specs.State.{State}
use Rattle.ot_gsub.specs.Nested.{now_of}
use Rattle.ot_gsub.specs.declared.substitution.Progress.{Progress}
use Rattle.ot_apply.specs.Stages.{AreStagesDone}
use Rattle.ot_apply.proofs.RunLemmas.{now_of-same, stages_next, stages_none}
use Rattle.ot_apply.proofs.StageLemmas.{stage_none, stage_run, stage_then}
use Rattle.ot_apply.proofs.substitution.apply_stages.Goals as goal

pub returns-in_err-apply_stage-clause-keeps : goal.returns-in_err-apply_stage-clause-keeps
returns-in_err-apply_stage-clause-keeps g c =
    stage_run c.args.plan.now.syllables c.args.buffer.now c.loop-stage.buffer c.keep_joined.new.buffer c.apply_stage.new.buffer
    c.loop-stage.invariant.keeps c.keep_joined.ensures.keeps c.apply_stage.ensures.keeps

pub returns-then-not-branch-clause-keeps : goal.returns-then-not-branch-clause-keeps
returns-then-not-branch-clause-keeps g c =
    stage_run c.args.plan.now.syllables c.args.buffer.now c.loop-stage.buffer c.keep_joined.new.buffer c.apply_stage.new.buffer
    c.loop-stage.invariant.keeps c.keep_joined.ensures.keeps c.apply_stage.ensures.keeps

pub returns-in_err-pause-clause-keeps : goal.returns-in_err-pause-clause-keeps
returns-in_err-pause-clause-keeps g c =
    stage_then c.args.plan.now.syllables c.args.buffer.now c.apply_stage.new.buffer c.pause.new.buffer
    (stage_run c.args.plan.now.syllables c.args.buffer.now c.loop-stage.buffer c.keep_joined.new.buffer c.apply_stage.new.buffer
    c.loop-stage.invariant.keeps c.keep_joined.ensures.keeps c.apply_stage.ensures.keeps)
    c.pause.ensures.keeps

pub returns-then-not-branch-2-clause-keeps : goal.returns-then-not-branch-2-clause-keeps
returns-then-not-branch-2-clause-keeps g c =
    stage_then c.args.plan.now.syllables c.args.buffer.now c.apply_stage.new.buffer c.pause.new.buffer
    (stage_run c.args.plan.now.syllables c.args.buffer.now c.loop-stage.buffer c.keep_joined.new.buffer c.apply_stage.new.buffer
    c.loop-stage.invariant.keeps c.keep_joined.ensures.keeps c.apply_stage.ensures.keeps)
    c.pause.ensures.keeps

pub loop-stage-init : goal.loop-stage-init
loop-stage-init g c =
    let plan = c.args.plan.now in
    let s = c.args.buffer.now in
    record {
      closed = c.requires;
      keeps = stage_none plan.syllables s;
      unchanged = refl;
      met = c.digest_of-glyphs.ensures;
      rest = λ steps new done.
          subst (λ (l : List Stage). AreStagesDone c.args.face.now plan l 0 (now_of s c.args.progress.now) new)
          c.as_slice-stages.ensures.value done;
    }

pub loop-stage-preserved : goal.loop-stage-preserved
loop-stage-preserved g c =
    let face = c.args.face.now in
    let plan = c.args.plan.now in
    let s = c.args.buffer.now in
    let b = c.loop-stage.buffer in
    let p = c.loop-stage.progress in
    let t = c.keep_joined.new.buffer in
    let u = c.apply_stage.new.buffer in
    let q = c.apply_stage.new.progress in
    let v = c.pause.new.buffer in
    let r = c.pause.new.progress in
    let e = c.see_after.new.progress in
    let list = c.as_slice-stages.result.now in
    let i = c.loop-stage.stage-index in
    let ran : c.apply_stage.result ≡ Ok true = c.in_ok-apply_stage.was ∙ ap (λ (d : Bool). Ok d) c.if-not-branch.false in
    let seen = c.apply_stage.ensures.seen ran in
    let staged =
    stage_run plan.syllables s b t u c.loop-stage.invariant.keeps c.keep_joined.ensures.keeps c.apply_stage.ensures.keeps in
    record {
      closed = c.in_ok-pause.ensures.closed c.if-not-branch-2.false;
      keeps = stage_then plan.syllables s u v staged c.pause.ensures.keeps;
      unchanged = c.see_after.ensures.unchanged
          (λ none. ap (λ (x : Progress). x.has_changed) (c.pause.ensures.nothing none).2 ∙ seen.unchanged);
      met = c.see_after.ensures.met
          (λ none. subst (λ (x : State). HasGlyphs c.apply_stage.new.glyphs x.input) (sym (c.pause.ensures.nothing none).1)
          seen.met);
      rest = λ steps new others.
          let left : 0 < r.search.budget.steps = subst (λ (x : Search). 0 < x.budget.steps) c.see_after.ensures.same_search steps in
          let mid : 0 < q.search.budget.steps = omega (arith, left, c.pause.ensures.spent.1) in
          let before : 0 < p.search.budget.steps = omega (arith, mid, c.apply_stage.ensures.spent.1) in
          c.loop-stage.invariant.rest before new
          (stages_next face plan list i c.loop-stage.start _ c.lookups_of-lookups.result.now (now_of b p) t (now_of u q) (now_of v r)
          (now_of v e) new c.loop-stage-test.true c.lookups_of-lookups.ensures c.keep_joined.ensures.keeps
          c.keep_joined.ensures.unjoined (c.apply_stage.ensures.runs ran mid) c.pause.ensures.keeps c.pause.ensures.spent.0
          (λ none. ap (λ (x : State). now_of x r) (c.pause.ensures.nothing none).1
          ∙ ap (λ (x : Progress). now_of u x) (c.pause.ensures.nothing none).2)
          (now_of-same v r e c.see_after.ensures.same_search c.see_after.ensures.same_random) others);
    }

pub returns-clause-stages : goal.returns-clause-stages
returns-clause-stages g c = λ is steps.
    let last = now_of c.loop-stage.buffer c.loop-stage.progress in
    c.loop-stage.invariant.rest steps last
    (stages_none c.args.face.now c.args.plan.now c.as_slice-stages.result.now c.loop-stage.stage-index c.loop-stage.start last
    c.loop-stage-test.false)
