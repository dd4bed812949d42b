-- The bisection of sorted rows: no row that holds the glyph is left out.
use Rattle.std.proofs.Common.{◌≡◌, ℕ, ◌+◌, ◌<◌, ◌≤◌, ◌∙◌, true, ap, sym, arith, Some, None, List}
use Rattle.std.specs.Prelude.{Option, nat_le}
use Rattle.std.proofs.lemmas.Bool.Decides.{nat_tests}
use Rattle.std.proofs.lemmas.Bool.{false≢true}
use Rattle.font_tables.specs.Rows.{Rises, reaches, is_at_most, is_within}
use Rattle.aat_tables.specs.GlyphRows.{last_of, first_of, Holds}

-- a row that ends before the glyph, and all before it, do not hold it
pub behind : (table : List ℕ) (size skip count glyph middle found : ℕ) → Rises (last_of table size) count → middle < count
    → last_of table size middle ≡ Some found → found < glyph
    → (row : ℕ) → row < middle + 1 → Holds table size skip glyph row → ⊥
behind table size skip count glyph middle found rise in_rows there below row before holds =
    let at : nat_le glyph found ≡ true =
    ap (is_at_most glyph) (sym there) ∙ rise row middle glyph (omega arith) in_rows holds.last in
    grind (arith, nat_tests)

-- no number is at most one and at least a greater one
contradicts : (found glyph : ℕ) (first : Option ℕ) → glyph < found → is_at_most found first ≡ true
    → is_within first glyph ≡ true → ⊥
contradicts found glyph None above at within = absurd (false≢true at)
contradicts found glyph (Some first) above at within = grind (arith, nat_tests)

-- a row that begins behind the glyph, and all after it, do not hold it
pub before : (table : List ℕ) (size skip count glyph middle found : ℕ) → Rises (first_of table size skip) count
    → first_of table size skip middle ≡ Some found → glyph < found
    → (row : ℕ) → middle ≤ row → row < count → Holds table size skip glyph row → ⊥
before table size skip count glyph middle found rise there above row up in_rows holds =
    let reached : reaches (first_of table size skip) found middle ≡ true = ap (is_at_most found) there ∙ grind (arith, nat_tests) in
    let at : is_at_most found (first_of table size skip row) ≡ true = rise middle row found up in_rows reached in
    contradicts found glyph (first_of table size skip row) above at holds.first
