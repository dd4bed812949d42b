use Rattle.std.proofs.Common.{List, IfOk, IfSome, subst, sym, ◌∙◌}
use Rattle.rb_glyph.specs.declared.info.hb_glyph_info_t.{hb_glyph_info_t}
use Rattle.script_syllables.proofs.CircleLemmas.{read_other, with_circles-at}
use Rattle.script_syllables.specs.Circle.{IsRead}
use Rattle.script_syllables.proofs.dotted_circle.read_next.Goals as goal

pub returns-then-begins_broken-clause-reads : goal.returns-then-begins_broken-clause-reads
returns-then-begins_broken-clause-reads c =
    let s = c.args.buffer.now in
    subst (λ (text : List hb_glyph_info_t). IfOk c.read_broken.result
    (λ read. IfSome read (λ next. IsRead c.args.circle.now text s next c.read_broken.new.buffer)))
    (sym (with_circles-at c.args.circle.now c.args.last c.cur.result.now s c.requires.opened c.requires.glyph c.cur.ensures
    (sym c.begins_broken.ensures ∙ c.if-begins_broken.true)))
    c.read_broken.ensures.reads

pub returns-clause-reads : goal.returns-clause-reads
returns-clause-reads c =
    read_other c.args.circle.now c.args.last c.cur.result.now c.in_ok-next_glyph.field-0 c.args.buffer.now
    c.next_glyph.new.self c.requires.opened c.requires.glyph c.cur.ensures
    (sym c.begins_broken.ensures ∙ c.if-begins_broken.false) c.in_ok-next_glyph.ensures.meets c.if-not-branch.false
