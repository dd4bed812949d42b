use Rattle.std.proofs.Common.{List, ◌+◌, ap, ◌∙◌}
use Rattle.rb_glyph.specs.declared.info.hb_glyph_info_t.{hb_glyph_info_t}
use Rattle.ot_apply.specs.Masks.{digits_start, digits_end}
use Rattle.ot_apply.proofs.FractionLemmas.{fraction_at-whole}
use Rattle.ot_apply.proofs.masks.set_fraction.Goals as goal

pub returns-else-end-slash-clause-is : goal.returns-else-end-slash-clause-is
returns-else-end-slash-clause-is c =
    let slash = c.args.slash in
    fraction_at-whole c.args.plan.now slash c.args.buffer.now c.digits_before-start.result c.digits_behind-end.result
    c.keep_fraction.new.buffer c.add_fraction.new.buffer
    (c.digits_before-start.ensures.is ∙ ap (λ (l : List hb_glyph_info_t). digits_start l slash) c.info.ensures)
    (c.digits_behind-end.ensures.is ∙ ap (λ (l : List hb_glyph_info_t). digits_end l (slash + 1)) c.info-2.ensures)
    c.if-start-slash.false c.if-end-slash.false c.keep_fraction.ensures.is c.add_fraction.ensures.is
