use Rattle.std.proofs.Common.{Bool, Result, Ok, ap, ◌∙◌, subst, rules}
use Rattle.std.specs.declared.alloc.AllocError.{AllocError}
use Rattle.shaping_buffer.specs.Step.{Meets}
use Rattle.shaping_passes.proofs.NormalizationDecompositionLemmas.{began, turn_of, turn_done, turn_refused, turn_gave_up}
use Rattle.shaping_passes.proofs.normalization.decomposition.decompose_all.Goals as goal

pub loop-buffer-init : goal.loop-buffer-init
loop-buffer-init g c =
    (search rules, began (g.F.FontCharacters.font c.args.font.now) c.args.buffer.now c.clear_output.new.self c.clear_output.ensures.is)

pub returns-in_err-decompose_current : goal.returns-in_err-decompose_current
returns-in_err-decompose_current g c =
    turn_gave_up (g.F.FontCharacters.font c.args.font.now) c.args.buffer.now c.loop-buffer.buffer c.decompose_current.new.buffer
    c.in_err-decompose_current.field-0.0 c.decompose_current.result c.from_residual.result c.loop-buffer.invariant.1
    (search rules) c.in_err-decompose_current.was c.decompose_current.ensures c.from_residual.ensures.0

pub returns-then-not-branch : goal.returns-then-not-branch
returns-then-not-branch g c =
    let font = g.F.FontCharacters.font c.args.font.now in
    let now = c.loop-buffer.buffer in
    let new = c.decompose_current.new.buffer in
    let P : Result Bool AllocError → Type 0 = λ x. Meets (turn_of font now) now x new in
    turn_refused font c.args.buffer.now now new c.loop-buffer.invariant.1 (search rules) c.loop-buffer.invariant.0
    (subst P (c.in_ok-decompose_current.was ∙ ap (λ b. Ok b) c.if-not-branch.true) c.decompose_current.ensures)

pub loop-buffer-preserved : goal.loop-buffer-preserved
loop-buffer-preserved g c =
    let font = g.F.FontCharacters.font c.args.font.now in
    let now = c.loop-buffer.buffer in
    let new = c.decompose_current.new.buffer in
    let P : Result Bool AllocError → Type 0 = λ x. Meets (turn_of font now) now x new in (
      c.loop-buffer.invariant.0,
      turn_done font c.args.buffer.now now new c.loop-buffer.invariant.1 (search rules)
          (subst P (c.in_ok-decompose_current.was ∙ ap (λ b. Ok b) c.if-not-branch.false) c.decompose_current.ensures),
    )
