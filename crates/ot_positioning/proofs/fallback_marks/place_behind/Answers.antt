use Rattle.std.proofs.Common.{◌≡◌, List, length, ap, ◌∙◌, arith}
use Rattle.std.proofs.lemmas.Result.{on_ok_weaker}
use Rattle.rb_glyph.specs.declared.info.hb_glyph_info_t.{hb_glyph_info_t}
use Rattle.shaping_buffer.proofs.KeepsLemmas.{keeps_then}
use Rattle.shaping_buffer.specs.State.{State}
use Rattle.ot_gpos.proofs.RunsLemmas.{same_length}
use Rattle.ot_positioning.specs.MarkPlacing.{marks_end}
use Rattle.ot_positioning.proofs.MarkLemmas.{done_with, done_without, keeps_rest}
use Rattle.ot_positioning.proofs.fallback_marks.place_behind.Goals as goal

pub returns-then-has_none-clause-is : goal.returns-then-has_none-clause-is
returns-then-has_none-clause-is g c =
    let s = c.args.buffer.now in
    let at : c.marks_end-end.result ≡ marks_end s.input c.args.place =
    c.marks_end-end.ensures.is ∙ ap (λ (gs : List hb_glyph_info_t). marks_end gs c.args.place) c.info.ensures in
    done_without (g.F.FontFunctions.may_advance c.args.font.now) c.args.line c.args.adjusts c.args.place c.marks_end-end.result s at
    (omega (arith, c.if-has_none.true))

pub returns-clause-is : goal.returns-clause-is
returns-clause-is g c =
    let may = g.F.FontFunctions.may_advance c.args.font.now in
    let s = c.args.buffer.now in
    let mid = c.keep_together.new.buffer in
    let new = c.place_around.new.buffer in
    let end = c.marks_end-end.result in
    let at : end ≡ marks_end s.input c.args.place =
    c.marks_end-end.ensures.is ∙ ap (λ (gs : List hb_glyph_info_t). marks_end gs c.args.place) c.info.ensures in
    on_ok_weaker c.place_around.result
    (done_with may c.args.line c.args.adjusts c.args.place end s mid new at
    (omega (arith, c.if-has_none.false, c.marks_end-end.ensures.order)) c.keep_together.ensures.is)
    c.place_around.ensures.is

pub returns-clause-same_length : goal.returns-clause-same_length
returns-clause-same_length g c =
    ap (λ (s : State). length s.input) c.place_around.ensures.rest
    ∙ same_length c.args.buffer.now c.keep_together.new.buffer c.keep_together.ensures.rest

pub returns-clause-keeps : goal.returns-clause-keeps
returns-clause-keeps g c =
    keeps_then c.args.buffer.now c.keep_together.new.buffer c.place_around.new.buffer c.keep_together.ensures.keeps
    (keeps_rest c.keep_together.new.buffer c.place_around.new.buffer c.place_around.ensures.rest)
