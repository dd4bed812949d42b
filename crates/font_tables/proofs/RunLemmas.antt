-- Glyphs from one on have their classes of the same range, up to its last glyph.
use Rattle.std.proofs.Common.{◌≡◌, ℕ, ◌+◌, ◌<◌, ◌≤◌, true, List, Option, Some, None, refl, ◌∙◌, arith, inl, inr}
use Rattle.std.proofs.lemmas.Bool.{cases_Bool}
use Rattle.std.proofs.lemmas.Grind.{common_steps}
use Rattle.std.specs.Prelude.{nat_le, unwrap_or, if◌then◌else◌}
use Rattle.font_tables.specs.ClassDefinition.{ranged_class}
use Rattle.font_tables.specs.GlyphRanges.{range_first, range_last, range_value, range_count}
use Rattle.font_tables.specs.Rows.{first_row, is_at_most, is_within, reaches}
use Rattle.font_tables.specs.Run.{IsRunFrom}
use Rattle.font_tables.specs.declared.glyph_ranges.Run.{Run}
use Rattle.font_tables.proofs.RowLemmas.{first_row-higher, first_row-none_higher, is_first}

unwrap_or-in_row : (table : List ℕ) (glyph row : ℕ) → first_row (range_last table) glyph (range_count table) ≡ Some row
    → unwrap_or (ranged_class table glyph) 0
    ≡ (if is_within (range_first table row) glyph then unwrap_or (range_value table row) 0 else 0)
unwrap_or-in_row table glyph row is =
    elim (cases_Bool (is_within (range_first table row) glyph)) [
      | inl within ↦ rw (is, within) refl
      | inr above ↦ rw (is, above) refl
    ]

is_within-first : (first : Option ℕ) (glyph : ℕ) → glyph < 4294967295
    → is_within first glyph ≡ nat_le (unwrap_or first 4294967295) glyph
is_within-first None glyph less = grind (arith, common_steps)
is_within-first (Some f) glyph less = refl

reach_end : (other glyph end : ℕ) (last : Option ℕ) → end ≡ unwrap_or last 0 + 1 → other < end → is_at_most glyph last ≡ true
    → is_at_most other last ≡ true
reach_end other glyph end None is before reached = absurd (grind (arith, common_steps))
reach_end other glyph end (Some l) is before reached = grind (arith, common_steps)

goes_on : (glyph end : ℕ) (last : Option ℕ) → end ≡ unwrap_or last 0 + 1 → is_at_most glyph last ≡ true → glyph < end
goes_on glyph end None is reached = absurd (grind (arith, common_steps))
goes_on glyph end (Some l) is reached = grind (arith, common_steps)

-- the run of a glyph's range
pub record IsRunOf (table : List ℕ) (run : Run) (row : ℕ) : Type 0 where
  pub first : run.first ≡ unwrap_or (range_first table row) 4294967295
  pub end : run.end ≡ unwrap_or (range_last table row) 0 + 1
  pub value : run.value ≡ unwrap_or (range_value table row) 0
  pub small : run.end ≤ 65536

pub run_goes : (table : List ℕ) (run : Run) (row glyph : ℕ) → IsRunOf table run row
    → first_row (range_last table) glyph (range_count table) ≡ Some row → glyph < run.end
run_goes table run row glyph of is =
    let it = is_first (reaches (range_last table) glyph) (range_count table) row is in
    goes_on glyph run.end (range_last table row) of.end it.passes

pub run_of_row : (table : List ℕ) (run : Run) (row glyph : ℕ) → IsRunOf table run row
    → first_row (range_last table) glyph (range_count table) ≡ Some row → IsRunFrom table run glyph
run_of_row table run row glyph of is = λ other from before.
    let it = is_first (reaches (range_last table) glyph) (range_count table) row is in
    let reached : reaches (range_last table) other row ≡ true =
    reach_end other glyph run.end (range_last table row) of.end before it.passes in
    let same = first_row-higher (range_last table) glyph other (range_count table) row from is reached in
    let small : other < 4294967295 = (let most = of.small in omega (arith, before, most)) in
    let begins = is_within-first (range_first table row) other small in
    unwrap_or-in_row table other row same ∙ rw (begins, of.first, of.value) refl

pub run_of_none : (table : List ℕ) (run : Run) (glyph : ℕ) → run.value ≡ 0
    → first_row (range_last table) glyph (range_count table) ≡ None → IsRunFrom table run glyph
run_of_none table run glyph zero is = λ other from before.
    let none = first_row-none_higher (range_last table) glyph other (range_count table) from is in
    elim (cases_Bool (nat_le run.first other)) [
      | inl later ↦ rw (none, later, zero) refl
      | inr sooner ↦ rw (none, sooner) refl
    ]
