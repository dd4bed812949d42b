use Rattle.std.proofs.Common.{ℕ, sym, ap, ◌∙◌, arith}
use Rattle.shaping_buffer.specs.State.{State}
use Rattle.script_joining.specs.ArabicMarks.{modifiers_moved}
use Rattle.script_joining.proofs.ArabicMarksLemmas.{marks_reordered-some}
use Rattle.script_joining.proofs.arabic.marks.reorder_marks.Goals as goal

pub returns-clause-is : goal.returns-clause-is
returns-clause-is c =
    let s = c.args.buffer.now in
    let start = c.args.start in
    let end = c.args.end in
    c.move_marks.ensures.is
    ∙ ap (λ (t : State). modifiers_moved 230 26 c.move_marks-behind.result end t) c.move_marks-behind.ensures.is
    ∙ ap (λ (n : ℕ). modifiers_moved 230 26 n end (modifiers_moved 220 25 start end s)) c.move_marks-behind.ensures.behind
    ∙ sym (marks_reordered-some start end s (omega arith) (omega (arith, c.len.ensures.len)))
