use Rattle.std.proofs.Common.{◌≡◌, ℕ, List, min, sym, subst, ap, ◌∙◌}
use Rattle.std.specs.Prelude.{Option}
use Rattle.rb_glyph.specs.declared.info.hb_glyph_info_t.{hb_glyph_info_t}
use Rattle.shaping_buffer.specs.State.{len}
use Rattle.script_letters.specs.Hebrew.{IsMisplaced, reordered_by}
use Rattle.script_letters.proofs.hebrew.reorder_marks.Goals as goal

pub returns-in-Some-clause-is : goal.returns-in-Some-clause-is
returns-in-Some-clause-is c =
    let s = c.args.buffer.now in
    let found = c.misplaced_mark.result in
    let end : c.min-end.result ≡ min c.args.end (len s) = c.min-end.ensures ∙ ap (λ (n : ℕ). min c.args.end n) c.len.ensures.len in (
      found,
      subst (λ (l : List hb_glyph_info_t). IsMisplaced l c.args.start (min c.args.end (len s)) found) c.info.ensures
          (subst (λ (n : ℕ). IsMisplaced c.info.result.now c.args.start n found) end c.misplaced_mark.ensures),
      c.move_mark.ensures.is ∙ sym (ap (λ (o : Option ℕ). reordered_by o s) c.in-Some.is),
    )

pub returns-in-None-clause-is : goal.returns-in-None-clause-is
returns-in-None-clause-is c =
    let s = c.args.buffer.now in
    let found = c.misplaced_mark.result in
    let end : c.min-end.result ≡ min c.args.end (len s) = c.min-end.ensures ∙ ap (λ (n : ℕ). min c.args.end n) c.len.ensures.len in (
      found,
      subst (λ (l : List hb_glyph_info_t). IsMisplaced l c.args.start (min c.args.end (len s)) found) c.info.ensures
          (subst (λ (n : ℕ). IsMisplaced c.info.result.now c.args.start n found) end c.misplaced_mark.ensures),
      sym (ap (λ (o : Option ℕ). reordered_by o s) c.in-None.is),
    )
