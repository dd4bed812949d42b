use Rattle.std.proofs.Common.{ℕ, sym, ap, ◌∙◌}
use Rattle.script_items.specs.Marks.{with_class}
use Rattle.ot_positions.specs.FallbackMarks.{fallback_class}
use Rattle.ot_positions.proofs.MappedLemmas.{recategorized-mark, recategorized-other}
use Rattle.ot_positions.proofs.mark_classes.recategorize.Goals as goal

pub returns-then-is_nonspacing_mark : goal.returns-then-is_nonspacing_mark
returns-then-is_nonspacing_mark c =
    let g = c.args.info.now in
    c.set_modified_combining_class.ensures.is
    ∙ ap (λ (class : ℕ). with_class class g)
    (c.fallback_class-class.ensures ∙ ap (fallback_class g.glyph_id) c.modified_combining_class.ensures)
    ∙ sym (recategorized-mark g (sym c.is_nonspacing_mark.ensures ∙ c.if-is_nonspacing_mark.true))

pub returns-else-is_nonspacing_mark : goal.returns-else-is_nonspacing_mark
returns-else-is_nonspacing_mark c =
    sym (recategorized-other c.args.info.now (sym c.is_nonspacing_mark.ensures ∙ c.if-is_nonspacing_mark.false))
