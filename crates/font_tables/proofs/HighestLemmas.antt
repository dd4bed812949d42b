-- No glyph is covered above the last row of a coverage whose rows rise.
use Rattle.std.proofs.Common.{◌≡◌, ℕ, ◌+◌, ◌-◌, ◌<◌, ◌≤◌, true, Option, Some, None, List, refl, arith}
use Rattle.std.proofs.lemmas.Grind.{common_steps}
use Rattle.std.specs.Prelude.{is_some, nat_le, unwrap_or, if◌then◌else◌, option_and_then, option_map}
use Rattle.font_tables.specs.Bytes.{number_16}
use Rattle.font_tables.specs.Coverage.{coverage_index, listed_count, listed_glyph}
use Rattle.font_tables.specs.GlyphRanges.{range_count, range_first, range_last, range_value}
use Rattle.font_tables.specs.Rows.{Rises, first_row, is_within, reaches}
use Rattle.font_tables.proofs.RowLemmas.{is_first}

-- the last of so many rows reaches what any of them reaches
most : (last : ℕ → Option ℕ) (count key row top : ℕ) → Rises last count → last (count - 1) ≡ Some top
    → first_row last key count ≡ Some row → key ≤ top
most last count key row top rise is found =
    let it = is_first (reaches last key) count row found in
    let inside : row < count = it.within in
    let end = rise row (count - 1) key (omega arith) (omega arith) it.passes in
    let here : nat_le key top ≡ true = rw is at end in
    grind (arith, common_steps)

listed_most : (table : List ℕ) (glyph top : ℕ) (found : Option ℕ) → Rises (listed_glyph table) (listed_count table)
    → listed_glyph table (listed_count table - 1) ≡ Some top
    → first_row (listed_glyph table) glyph (listed_count table) ≡ found
    → is_some (option_and_then (λ row. if is_within (listed_glyph table row) glyph then Some row else None) found) ≡ true
    → glyph ≤ top
listed_most table glyph top None rise is found some = absurd (grind (arith, common_steps))
listed_most table glyph top (Some row) rise is found some =
    most (listed_glyph table) (listed_count table) glyph row top rise is found

pub highest_listed : (table : List ℕ) (glyph top : ℕ) → unwrap_or (number_16 table 0) 0 ≡ 1
    → Rises (listed_glyph table) (listed_count table) → listed_glyph table (listed_count table - 1) ≡ Some top
    → is_some (coverage_index table glyph) ≡ true → glyph ≤ top
unfolding coverage_index
highest_listed table glyph top format rise is some =
    listed_most table glyph top (first_row (listed_glyph table) glyph (listed_count table)) rise is refl (rw format at some)

ranged_most : (table : List ℕ) (glyph top : ℕ) (found : Option ℕ) → Rises (range_last table) (range_count table)
    → range_last table (range_count table - 1) ≡ Some top
    → first_row (range_last table) glyph (range_count table) ≡ found
    → is_some (option_and_then (λ row. option_and_then (λ first. option_map (λ index. index + (glyph - first)) (range_value table row))
    (range_first table row)) (option_and_then (λ row. if is_within (range_first table row) glyph then Some row else None) found)) ≡ true
    → glyph ≤ top
ranged_most table glyph top None rise is found some = absurd (grind (arith, common_steps))
ranged_most table glyph top (Some row) rise is found some =
    most (range_last table) (range_count table) glyph row top rise is found

pub highest_ranged : (table : List ℕ) (glyph top : ℕ) → unwrap_or (number_16 table 0) 0 ≡ 2
    → Rises (range_last table) (range_count table) → range_last table (range_count table - 1) ≡ Some top
    → is_some (coverage_index table glyph) ≡ true → glyph ≤ top
unfolding coverage_index
highest_ranged table glyph top format rise is some =
    ranged_most table glyph top (first_row (range_last table) glyph (range_count table)) rise is refl (rw format at some)
