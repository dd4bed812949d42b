-- A row is pushed where the character has one, and nothing else changes.
use Rattle.std.proofs.Common.{◌≡◌, ℕ, option_map, List, Option, Some, None, IsSome, rules, refl, sym, ap, subst, ◌∙◌, ◌+◌}
use Rattle.ucd_normal.specs.Decomposition.{canonical_mapping}
use Rattle.unicode_tables.specs.Mapping.{parts_of}
use Rattle.unicode_tables.specs.Rows.{decomposition_row, HasDecompositions}
use Rattle.unicode_tables.proofs.Below.{AreRowsBelow, rows_kept, rows_pushed, on_err}
use Rattle.unicode_tables.proofs.rows.decompositions.Goals as goal
use Rattle.unicode_tables.proofs.rows.decompositions.Goals.{in-Some+in-Some-decomposition_row+in_ok-push}
use Rattle.unicode_tables.proofs.rows.decompositions.Goals.{in-Some+in_default-decomposition_row, in_default}

key_of_parts : (n : ℕ) (o : Option (ℕ × Option ℕ)) (row : ℕ × ℕ × Option ℕ)
    → option_map (λ parts. (n, parts.0, parts.1)) o ≡ Some row → row.0 ≡ n
key_of_parts n None row h = cc
key_of_parts n (Some parts) row h = cc

-- the row of a character begins with it
key_of : (n : ℕ) (row : ℕ × ℕ × Option ℕ) → decomposition_row n ≡ Some row → row.0 ≡ n
key_of n row some = key_of_parts n (parts_of (canonical_mapping n)) row some

pub loop-code-preserved : goal.loop-code-preserved
loop-code-preserved c =
    let n = c.loop-code.code in
    let kept = rows_kept (λ row. row.0) decomposition_row n c.loop-code.rows.items c.loop-code.invariant in
    let now = λ (rows : List (ℕ × ℕ × Option ℕ)). AreRowsBelow (λ row. row.0) decomposition_row (n + 1) rows in
    elim c.match-from_u32.branch [
      | in-Some+in-Some-decomposition_row+in_ok-push w ↦
          let row = w.in-Some-decomposition_row.row in
          let some = sym (w.in-Some-decomposition_row.ensures ∙ ap decomposition_row w.in-Some.ensures.value.1) in
          subst now (sym (ap (λ v. v.items) w.rows-is ∙ w.in_ok-push.ensures.items))
          (rows_pushed (λ row. row.0) decomposition_row n c.loop-code.rows.items row c.loop-code.invariant some
          (key_of n row some))
      | in-Some+in_default-decomposition_row w ↦
          let none = sym (w.in_default-decomposition_row.ensures ∙ ap decomposition_row w.in-Some.ensures.value.1) in
          subst now (sym (ap (λ v. v.items) w.rows-is)) (kept (λ scalar. none))
      | in_default w ↦
          subst now (sym (ap (λ v. v.items) w.rows-is)) (kept (λ scalar. absurd (w.in_default.ensures.value scalar)))
    ]

pub returns-in_err-push-clause-memory : goal.returns-in_err-push-clause-memory
returns-in_err-push-clause-memory c =
    let some : IsSome (decomposition_row c.in-Some.c) = subst IsSome c.in-Some-decomposition_row.ensures refl in
    let row : HasDecompositions = (c.in-Some.c, (search rules, some)) in
    on_err c.from_residual.result HasDecompositions row
