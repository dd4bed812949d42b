use Rattle.std.proofs.Common.{length, pos, subst}
use Rattle.std.specs.Prelude.{IfOk, int_div}
use Rattle.shaping_buffer.specs.State.{State}
use Rattle.ot_positioning.specs.MarkPlacing.{AreDone, line_of}
use Rattle.ot_positioning.specs.declared.mark_placing.Line.{Line}
use Rattle.ot_positioning.proofs.fallback_marks.position_marks.Goals as goal

pub returns-clause-is : goal.returns-clause-is
returns-clause-is g c =
    let may = g.F.FontFunctions.may_advance c.args.font.now in
    let r = c.place_all.result in
    let new = c.place_all.new.buffer in
    let line = line_of c.args.direction (int_div c.args.face.now.scale.y (pos 16)) c.args.buffer.now in
    subst (λ (s : State). IfOk r (λ _. AreDone may line c.args.adjusts (length s.input) 0 s new)) c.mark_baseless.ensures.is
    (subst (λ (l : Line). IfOk r (λ _. AreDone may l c.args.adjusts (length c.mark_baseless.new.buffer.input) 0 c.mark_baseless.new.buffer new))
    c.line_of-line.ensures c.place_all.ensures.is)
