use Rattle.std.proofs.Common.{Bool, true, false, subst, arith}
use Rattle.shaping_buffer.proofs.KeepsLemmas.{keeps_none, keeps_then}
use Rattle.ot_gsub.specs.Edits.{Gives, put_part}
use Rattle.ot_gsub.proofs.EditsLemmas.{multiply_refused, parts_more, parts_none}
use Rattle.ot_gsub.proofs.multiplication.multiply.Goals as goal

pub loop-index-init : goal.loop-index-init
loop-index-init c = record {
  opened = c.requires.opened;
  glyph = c.requires.glyph;
  keeps = keeps_none c.args.buffer.now;
  parts = parts_none c.args.gdef.now.table.now c.glyph_ahead-whole.result c.args.sequence.now.table.now c.args.buffer.now;
  twin = λ h. absurd (omega (arith, h));
}

pub returns-then-not-branch-clause-gives : goal.returns-then-not-branch-clause-gives
returns-then-not-branch-clause-gives c =
    let gdef = c.args.gdef.now.table.now in
    let whole = c.glyph_ahead-whole.result in
    let b = c.loop-index.buffer in
    let new = c.put_part.new.buffer in
    multiply_refused gdef whole c.args.sequence.now.table.now c.args.buffer.now c.loop-index.index b new
    c.glyph_ahead-whole.ensures (omega (arith, c.loop-index-test.true, c.len-index-end.ensures))
    c.loop-index.invariant.parts
    (subst (λ k. Gives (put_part gdef whole c.loop-index.index k b) false new) c.glyph.ensures
    (subst (λ (d : Bool). Gives (put_part gdef whole c.loop-index.index c.glyph.result b) d new) c.if-not-branch.true
    c.in_ok-put_part.ensures.gives))

pub loop-index-preserved : goal.loop-index-preserved
loop-index-preserved c =
    let gdef = c.args.gdef.now.table.now in
    let whole = c.glyph_ahead-whole.result in
    let b = c.loop-index.buffer in
    let new = c.put_part.new.buffer in
    record {
      opened = c.in_ok-put_part.ensures.left;
      glyph = c.in_ok-put_part.ensures.glyph;
      keeps = keeps_then c.args.buffer.now b new c.loop-index.invariant.keeps c.put_part.ensures.keeps;
      parts = parts_more gdef whole c.args.sequence.now.table.now c.args.buffer.now c.loop-index.index b new
          c.loop-index.invariant.parts
          (subst (λ k. Gives (put_part gdef whole c.loop-index.index k b) true new) c.glyph.ensures
          (subst (λ (d : Bool). Gives (put_part gdef whole c.loop-index.index c.glyph.result b) d new)
          c.if-not-branch.false c.in_ok-put_part.ensures.gives));
      twin = λ _. c.in_ok-put_part.ensures.twin c.if-not-branch.false;
    }
