use Rattle.std.proofs.Common.{◌≡◌, ◌+◌, ◌-◌, ℕ, true, false, length, drop, ap, sym, ◌∙◌, arith}
use Rattle.std.proofs.Common.{length-drop}
use Rattle.std.proofs.lemmas.Bool.{cond-true, cond-false}
use Rattle.std.proofs.lemmas.List.{take_all}
use Rattle.std.specs.List.{prefix_len}
use Rattle.script_items.specs.Marks.{is_mark}
use Rattle.ot_lookups.specs.LookupProps.{glyph_at}
use Rattle.ot_positioning.proofs.fallback_marks.marks_end.Goals as goal

pub returns-then-is_unicode_mark-clause-is : goal.returns-then-is_unicode_mark-clause-is
returns-then-is_unicode_mark-clause-is c =
    let mark : is_mark (glyph_at c.args.infos.now c.args.place) ≡ true =
    ap is_mark (sym c.info_at.ensures) ∙ sym c.is_unicode_mark.ensures ∙ c.if-is_unicode_mark.true in
    sym (cond-true _ _ _ mark)

pub returns-else-is_unicode_mark-clause-is : goal.returns-else-is_unicode_mark-clause-is
returns-else-is_unicode_mark-clause-is c =
    let gs = c.args.infos.now in
    let next = c.args.place + 1 in
    let other : is_mark (glyph_at gs c.args.place) ≡ false =
    ap is_mark (sym c.info_at.ensures) ∙ sym c.is_unicode_mark.ensures ∙ c.if-is_unicode_mark.false in
    let long : length (drop next gs) ≡ length gs - next = length-drop next gs in
    ap (λ (n : ℕ). next + n)
    (c.first_marks.ensures.is ∙ ap (prefix_len is_mark) (take_all (length gs - next) (drop next gs) (omega (arith, long))))
    ∙ sym (cond-false _ _ _ other)
