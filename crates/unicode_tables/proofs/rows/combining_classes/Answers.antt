-- A row is pushed where the character has one, and nothing else changes.
use Rattle.std.proofs.Common.{◌≡◌, ◌==◌, ℕ, Bool, true, false, if◌then◌else◌, List, Some, None}
use Rattle.std.proofs.Common.{sym, ap, subst, ◌∙◌, ◌+◌}
use Rattle.ucd_normal.specs.CanonicalCombiningClass.{canonical_combining_class}
use Rattle.unicode_tables.specs.Rows.{class_row}
use Rattle.unicode_tables.proofs.Below.{AreRowsBelow, rows_kept, rows_pushed}
use Rattle.unicode_tables.proofs.rows.combining_classes.Goals as goal
use Rattle.unicode_tables.proofs.rows.combining_classes.Goals.{in-Some+in-Some-class_row+in_ok-push}
use Rattle.unicode_tables.proofs.rows.combining_classes.Goals.{in-Some+in_default-class_row, in_default}

key_of_choice : (b : Bool) (n v : ℕ) (row : ℕ × ℕ) → (if b then None else Some (n, v)) ≡ Some row → row.0 ≡ n
key_of_choice true n v row h = cc
key_of_choice false n v row h = cc

-- the row of a character begins with it
key_of : (n : ℕ) (row : ℕ × ℕ) → class_row n ≡ Some row → row.0 ≡ n
key_of n row some = key_of_choice (canonical_combining_class n == 0) n (canonical_combining_class n) row some

pub loop-code-preserved : goal.loop-code-preserved
loop-code-preserved c =
    let n = c.loop-code.code in
    let kept = rows_kept (λ row. row.0) class_row n c.loop-code.rows.items c.loop-code.invariant in
    let now = λ (rows : List (ℕ × ℕ)). AreRowsBelow (λ row. row.0) class_row (n + 1) rows in
    elim c.match-from_u32.branch [
      | in-Some+in-Some-class_row+in_ok-push w ↦
          let row = w.in-Some-class_row.row in
          let some = sym (w.in-Some-class_row.ensures ∙ ap class_row w.in-Some.ensures.value.1) in
          subst now (sym (ap (λ v. v.items) w.rows-is ∙ w.in_ok-push.ensures.items))
          (rows_pushed (λ row. row.0) class_row n c.loop-code.rows.items row c.loop-code.invariant some
          (key_of n row some))
      | in-Some+in_default-class_row w ↦
          let none = sym (w.in_default-class_row.ensures ∙ ap class_row w.in-Some.ensures.value.1) in
          subst now (sym (ap (λ v. v.items) w.rows-is)) (kept (λ scalar. none))
      | in_default w ↦
          subst now (sym (ap (λ v. v.items) w.rows-is)) (kept (λ scalar. absurd (w.in_default.ensures.value scalar)))
    ]
