use Rattle.std.proofs.Common.{length, ap, sym, ◌∙◌, drop}
use Rattle.glyph_lists.proofs.LengthsLemmas.{length-deletion}
use Rattle.shaping_buffer.specs.State.{State}
use Rattle.shaping_buffer.specs.ClusterStep.{any_order, head_of}
use Rattle.ot_gsub.proofs.BufferLemmas.{twin_before}
use Rattle.ot_gsub.proofs.EditsLemmas.{drop_behind-twin}
use Rattle.ot_gsub.proofs.writing.drop_behind.Goals as goal

pub returns-then-has_twin_before-clause-keeps : goal.returns-then-has_twin_before-clause-keeps
returns-then-has_twin_before-clause-keeps c =
    c.skip_glyph.ensures.keeps (twin_before c.args.buffer.now c.requires.opened
    (sym c.has_twin_before.ensures ∙ c.if-has_twin_before.true))

pub returns-then-has_twin_before-clause-is : goal.returns-then-has_twin_before-clause-is
returns-then-has_twin_before-clause-is c =
    c.skip_glyph.ensures.is
    ∙ sym (drop_behind-twin c.args.buffer.now (sym c.has_twin_before.ensures ∙ c.if-has_twin_before.true))

pub returns-else-may_stand_in_any_order-clause-same_out : goal.returns-else-may_stand_in_any_order-clause-same_out
returns-else-may_stand_in_any_order-clause-same_out c =
    let s = c.args.buffer.now in
    ap (λ (t : State). length t.out) c.delete_glyph.ensures.is
    ∙ (length-deletion (any_order s) s.out (head_of s) (drop 1 s.input)).0
