-- What is set where a number is that of a character, and where it is not; it fits its field. No character below U+0300 has a
-- combining class.
use Rattle.std.proofs.Common.{◌≡◌, ◌<◌, ◌*◌, ◌^◌, ℕ, true, ◌==◌, ◌||◌, List, [], ◌∷◌, bit_or, nat_lt, refl, ap, ◌∙◌, arith, ltb-true, lt-ltb}
use Rattle.std.proofs.lemmas.Bool.{cond-true, cond-false, cond_both, false_from_ne_true, and_from, and_parts}
use Rattle.std.proofs.lemmas.Nat.{or_of_16}
use Rattle.std.specs.Prelude.{Option, Some, unwrap_or, option_map, if◌then◌else◌}
use Rattle.std.specs.List.{find, list_all}
use lib.Utf8.{scalar}
use Rattle.ucd_table.proofs.StepsLemmas.{row_steps, step_value-here}
use Rattle.ucd_normal.specs.CanonicalCombiningClass.{canonical_combining_class}
use Rattle.ucd_normal.specs.CanonicalCombiningClassRows.{canonical_combining_class_rows}
use Rattle.ucd_normal.proofs.BoundLemmas.{canonical_combining_class-le}
use Rattle.ucd_normal.proofs.CanonicalCombiningClassLemmas.{canonical_combining_class_stepped}
use Rattle.rb_glyph.specs.Categories.{category_of_char}
use Rattle.rb_glyph.specs.Category.{number_of, is_mark_category}
use Rattle.rb_glyph.specs.Characters.{class_changes, default_ignorables, modified_combining_class, reordering_class}
use Rattle.rb_glyph.specs.Rows.{holds, value_of}
use Rattle.rb_glyph.specs.UnicodeProps.{hidden_ignorables, ignorable_bits, kind_bits, mark_bits, props_word, props_scratch}
use Rattle.rb_glyph.specs.declared.category.hb_unicode_general_category_t.{hb_unicode_general_category_t}
use Rattle.rb_glyph.specs.declared.category.hb_unicode_general_category_t.TheVariants as own
use Rattle.rb_glyph.specs.declared.flag_sets.TheConstants.UnicodeProps.{CONTINUATION, IGNORABLE}
use Rattle.script_items.specs.Properties.{class_of, class_row, properties_of, remembered}

pub canonical_combining_class-below : (c : ℕ) → c < 0x300 → canonical_combining_class c ≡ 0
unfolding canonical_combining_class_stepped row_steps canonical_combining_class_rows
canonical_combining_class-below c below = canonical_combining_class_stepped.gives c ∙ step_value-here 0 (0x300, 0) _ c below

pub ruleset classes = (canonical_combining_class-below)

module _ (c : ℕ) (is : scalar c ≡ true) where
  pub properties_of-there : properties_of c ≡ props_word c (class_row c)
  unfolding properties_of
  properties_of-there = cond-true (scalar c) (props_word c (class_row c)) 0 is

  pub remembered-there : (flags : ℕ) → remembered c flags ≡ props_scratch c flags
  unfolding remembered
  remembered-there flags = cond-true (scalar c) (props_scratch c flags) flags is

module _ (c : ℕ) (never : scalar c ≡ true → ⊥) where
  pub properties_of-none : properties_of c ≡ 0
  unfolding properties_of
  properties_of-none = cond-false (scalar c) (props_word c (class_row c)) 0 (false_from_ne_true (scalar c) never)

  pub remembered-none : (flags : ℕ) → remembered c flags ≡ flags
  unfolding remembered
  remembered-none flags = cond-false (scalar c) (props_scratch c flags) flags (false_from_ne_true (scalar c) never)

-- the table that has the row of a character
pub one_row : (c g class : ℕ) (rows : List (ℕ × ℕ)) → Some rows ≡ Some ((c, class) ∷ []) → c ≡ g → class ≡ class_of c
    → rows ≡ class_row g
one_row c g class rows is same its =
    ap (λ (o : Option (List (ℕ × ℕ))). unwrap_or o []) is
    ∙ ap (λ (k : ℕ). (c, k) ∷ []) its
    ∙ ap class_row same

-- ---- what fits its field

number_of-lt : (g : hb_unicode_general_category_t) → number_of g < 30
number_of-lt own.Control = omega arith
number_of-lt own.Format = omega arith
number_of-lt own.Unassigned = omega arith
number_of-lt own.PrivateUse = omega arith
number_of-lt own.Surrogate = omega arith
number_of-lt own.LowercaseLetter = omega arith
number_of-lt own.ModifierLetter = omega arith
number_of-lt own.OtherLetter = omega arith
number_of-lt own.TitlecaseLetter = omega arith
number_of-lt own.UppercaseLetter = omega arith
number_of-lt own.SpacingMark = omega arith
number_of-lt own.EnclosingMark = omega arith
number_of-lt own.NonspacingMark = omega arith
number_of-lt own.DecimalNumber = omega arith
number_of-lt own.LetterNumber = omega arith
number_of-lt own.OtherNumber = omega arith
number_of-lt own.ConnectorPunctuation = omega arith
number_of-lt own.DashPunctuation = omega arith
number_of-lt own.ClosePunctuation = omega arith
number_of-lt own.FinalPunctuation = omega arith
number_of-lt own.InitialPunctuation = omega arith
number_of-lt own.OtherPunctuation = omega arith
number_of-lt own.OpenPunctuation = omega arith
number_of-lt own.CurrencySymbol = omega arith
number_of-lt own.ModifierSymbol = omega arith
number_of-lt own.MathSymbol = omega arith
number_of-lt own.OtherSymbol = omega arith
number_of-lt own.LineSeparator = omega arith
number_of-lt own.ParagraphSeparator = omega arith
number_of-lt own.SpaceSeparator = omega arith

-- what a row holds, or else another number, where all are below 256
value_of-lt : (key other : ℕ) (rows : List (ℕ × ℕ)) → list_all (λ r. nat_lt r.1 256) rows ≡ true → other < 256
    → unwrap_or (value_of key rows) other < 256
value_of-lt key other [] all small = small
value_of-lt key other (r ∷ rows) all small =
    let parts = and_parts (nat_lt r.1 256) (list_all (λ r. nat_lt r.1 256) rows) all in
    cond_both (r.0 == key) (Some r) (find (λ row. row.0 == key) rows)
    (λ (o : Option (ℕ × ℕ)). unwrap_or (option_map (λ row. row.1) o) other < 256)
    (λ _. ltb-true r.1 256 parts.0) (λ _. value_of-lt key other rows parts.1 small)

class_of-lt : (c : ℕ) → class_of c < 256
class_of-lt c =
    cond_both (c == 0xC55) 4 (if c == 0xC56 then 5 else canonical_combining_class c) (λ (n : ℕ). n < 256) (λ _. omega arith)
    (λ _. cond_both (c == 0xC56) 5 (canonical_combining_class c) (λ (n : ℕ). n < 256) (λ _. omega arith)
    (λ _. omega (arith, canonical_combining_class-le c)))

class_row-lt : (c : ℕ) → list_all (λ r. nat_lt r.1 256) (class_row c) ≡ true
class_row-lt c = and_from (nat_lt (class_of c) 256) true (lt-ltb (class_of c) 256 (class_of-lt c)) refl

modified-lt : (c : ℕ) → modified_combining_class c (class_row c) < 256
modified-lt c =
    let class = unwrap_or (value_of c (class_row c)) 0 in
    let small : class < 256 = value_of-lt c 0 (class_row c) (class_row-lt c) (omega arith) in
    cond_both (c == 0x1A60 || c == 0x0FC6) 254 (if c == 0x0F39 then 127 else reordering_class class) (λ (n : ℕ). n < 256)
    (λ _. omega arith)
    (λ _. cond_both (c == 0x0F39) 127 (reordering_class class) (λ (n : ℕ). n < 256) (λ _. omega arith)
    (λ _. value_of-lt class class class_changes refl small))

mark_bits-lt : (c : ℕ) → mark_bits c (class_row c) < 2 ^ 16
mark_bits-lt c =
    let class = modified_combining_class c (class_row c) in
    let shifted : class * 2 ^ 8 < 2 ^ 16 = omega (arith, modified-lt c) in
    cond_both (is_mark_category (category_of_char c)) (bit_or CONTINUATION.0 (class * 2 ^ 8)) 0 (λ (n : ℕ). n < 2 ^ 16)
    (λ _. or_of_16 CONTINUATION.0 (class * 2 ^ 8) (omega arith) shifted) (λ _. omega arith)

kind_bits-lt : (c : ℕ) → kind_bits c < 2 ^ 16
kind_bits-lt c =
    cond_both (c == 0x200C) _ _ (λ (n : ℕ). n < 2 ^ 16) (λ _. omega arith)
    (λ _. cond_both (c == 0x200D) _ _ (λ (n : ℕ). n < 2 ^ 16) (λ _. omega arith)
    (λ _. cond_both (holds c hidden_ignorables) _ _ (λ (n : ℕ). n < 2 ^ 16) (λ _. omega arith) (λ _. omega arith)))

ignorable_bits-lt : (c : ℕ) → ignorable_bits c < 2 ^ 16
ignorable_bits-lt c =
    cond_both (holds c default_ignorables) (bit_or IGNORABLE.0 (kind_bits c)) 0 (λ (n : ℕ). n < 2 ^ 16)
    (λ _. or_of_16 IGNORABLE.0 (kind_bits c) (omega arith) (kind_bits-lt c)) (λ _. omega arith)

props_word-lt : (c : ℕ) → props_word c (class_row c) < 2 ^ 16
props_word-lt c =
    let category = number_of (category_of_char c) in
    let small : category < 2 ^ 16 = omega (arith, number_of-lt (category_of_char c)) in
    cond_both (nat_lt c 0x80) category (bit_or (bit_or category (ignorable_bits c)) (mark_bits c (class_row c)))
    (λ (n : ℕ). n < 2 ^ 16) (λ _. small)
    (λ _. or_of_16 (bit_or category (ignorable_bits c)) (mark_bits c (class_row c))
    (or_of_16 category (ignorable_bits c) small (ignorable_bits-lt c)) (mark_bits-lt c))

pub properties_of-lt : (c : ℕ) → properties_of c < 2 ^ 16
unfolding properties_of
properties_of-lt c =
    cond_both (scalar c) (props_word c (class_row c)) 0 (λ (n : ℕ). n < 2 ^ 16) (λ _. props_word-lt c) (λ _. omega arith)
