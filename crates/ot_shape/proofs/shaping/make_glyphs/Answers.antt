use Rattle.std.proofs.Common.{◌≡◌, ◌∙◌, true, ap, subst, arith}
use Rattle.std.proofs.lemmas.Grind.{common_steps}
use Rattle.std.specs.Prelude.{Bool, not}
use Rattle.rb_common.specs.Direction.{is_forward}
use Rattle.ot_characters.specs.Turned.{KeepsOrTurns}
use Rattle.ot_shape.proofs.TurnLemmas.{made, if_ok}
use Rattle.ot_shape.proofs.shaping.make_glyphs.Goals as goal

pub returns-clause-runs : goal.returns-clause-runs
returns-clause-runs g c =
    let s = c.args.buffer.now in
    let shaped : c.in_ok-shape_native.field-0 ≡ true = grind (arith, common_steps) in
    let t = c.finish_glyphs.new.buffer in
    if_ok c.finish_glyphs.result
    (λ (done : Bool). done ≡ true → KeepsOrTurns (not (is_forward s.direction)) s t)
    (λ done yes. subst (λ (forward : Bool). KeepsOrTurns (not forward) s t) (c.is_forward.ensures ∙ ap is_forward c.requires.direction)
    (made c.is_forward.result c.ensure_native_direction-is_turned.result c.is_against.result s
    c.begin_characters.new.buffer c.ensure_native_direction-is_turned.new.buffer c.shape_native.new.buffer
    c.reverse_if.new.buffer t c.is_against.ensures c.begin_characters.ensures.keeps
    c.ensure_native_direction-is_turned.ensures.runs (c.in_ok-shape_native.ensures.keeps shaped) c.reverse_if.ensures.runs
    c.finish_glyphs.ensures.keeps))
