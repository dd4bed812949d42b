-- The ranges of a charset, one after the other.
use Rattle.std.proofs.Common.{◌≡◌, ℕ, zero, suc, ◌+◌, ◌-◌, ◌<◌, ◌≤◌, Bool, true, false, List, Option, Some, None, refl, arith, add-one, inl, inr}
use Rattle.std.proofs.lemmas.Bool.{cases_lt}
use Rattle.std.specs.Prelude.{option_map, option_and_then, nat_le}
use Rattle.font_tables.specs.Rows.{reaches}
use Rattle.font_tables.proofs.RowLemmas.{NoneBelow, first_below-some, first_below-none}
use Rattle.font_outlines.specs.Charset.{named, range_first, range_left, range_string}

not_below : (glyph through : ℕ) → through < glyph → nat_le glyph through ≡ false
not_below glyph through less = grind arith

is_below : (glyph through : ℕ) → glyph ≤ through → nat_le glyph through ≡ true
is_below glyph through most = grind arith

-- one more range
pub named-next : (is_long : Bool) (bs : List ℕ) (row before left : ℕ) → named is_long bs row ≡ Some before
    → range_left is_long bs row ≡ Some left → named is_long bs (row + 1) ≡ Some (before + left + 1)
unfolding named
named-next is_long bs row before left so here = rw (add-one row, so, here) refl

option_and_then-none_after : (o : Option ℕ) (left : Option ℕ) → left ≡ None
    → option_and_then (λ before. option_map (λ left. before + left + 1) left) o ≡ None
option_and_then-none_after None left none = refl
option_and_then-none_after (Some before) left none = rw none refl

-- behind a range that does not lie in the table nothing is named
pub named-outside : (is_long : Bool) (bs : List ℕ) (row rows : ℕ) → range_left is_long bs row ≡ None → row < rows
    → named is_long bs rows ≡ None
unfolding named
named-outside is_long bs row zero none behind = absurd (omega arith)
named-outside is_long bs row (suc rows) none behind =
    elim (cases_lt row rows) [
      | inl more ↦ rw (named-outside is_long bs row rows none more) refl
      | inr here ↦
          let is : rows ≡ row = omega arith in
          rw is (option_and_then-none_after (named is_long bs row) (range_left is_long bs row) none)
    ]

-- the ranges before a row do not reach the glyph
abbrev pub NoneBefore : Bool → List ℕ → ℕ → ℕ → Type 0
NoneBefore is_long bs glyph row = NoneBelow (reaches (λ r. named is_long bs (r + 1)) glyph) row

-- a range that ends before the glyph
pub none_before-next : (is_long : Bool) (bs : List ℕ) (glyph row through : ℕ) → NoneBefore is_long bs glyph row
    → named is_long bs (row + 1) ≡ Some through → through < glyph → NoneBefore is_long bs glyph (row + 1)
none_before-next is_long bs glyph row through none so less = record {
  fails = λ j below. elim (cases_lt j row) [
    | inl before ↦ none.fails j before
    | inr here ↦
        let is : j ≡ row = omega arith in
        rw (is, so) (not_below glyph through less)
  ];
}

-- a range that does not lie in the table, and those behind it
pub none_before-outside : (is_long : Bool) (bs : List ℕ) (glyph row rows : ℕ) → NoneBefore is_long bs glyph row
    → range_left is_long bs row ≡ None → NoneBefore is_long bs glyph rows
none_before-outside is_long bs glyph row rows none outside = record {
  fails = λ j below. elim (cases_lt j row) [
    | inl before ↦ none.fails j before
    | inr behind ↦
        let gone = named-outside is_long bs row (j + 1) outside (omega arith) in
        rw gone refl
  ];
}

-- no range reaches the glyph
pub range_string-none : (is_long : Bool) (bs : List ℕ) (glyph : ℕ) → NoneBefore is_long bs glyph glyph
    → range_string is_long bs glyph ≡ None
unfolding range_string
range_string-none is_long bs glyph none = rw (first_below-none _ _ none) refl

-- the first range that reaches the glyph
pub range_string-some : (is_long : Bool) (bs : List ℕ) (glyph row before through : ℕ) → row < glyph
    → NoneBefore is_long bs glyph row → named is_long bs row ≡ Some before → named is_long bs (row + 1) ≡ Some through
    → glyph ≤ through
    → range_string is_long bs glyph ≡ option_map (λ first. first + (glyph - 1 - before)) (range_first is_long bs row)
unfolding range_string
range_string-some is_long bs glyph row before through less none so next most =
    let reached : reaches (λ r. named is_long bs (r + 1)) glyph row ≡ true = rw next (is_below glyph through most) in
    rw (first_below-some (reaches (λ r. named is_long bs (r + 1)) glyph) glyph row less reached none, so) refl

pub named-first : (is_long : Bool) (bs : List ℕ) → named is_long bs 0 ≡ Some 0
unfolding named
named-first is_long bs = refl

pub none_before-first : (is_long : Bool) (bs : List ℕ) (glyph : ℕ) → NoneBefore is_long bs glyph 0
none_before-first is_long bs glyph = record { fails = λ j below. absurd (omega arith) }
