-- The first subtable that there is of a list of encodings, one after the other, and the first characters, of which each encoding
-- has the own numbers as codes.
use Rattle.std.proofs.Common.{◌≡◌, ℕ, ◌+◌, ◌<◌, ◌≤◌, List, length, drop, get_or, Option, Some, None, true, refl, ap, ◌∙◌, arith}
use Rattle.std.proofs.lemmas.Bool.Decides.{nat_tests}
use Rattle.std.specs.Prelude.{nat_lt}
use Rattle.std.specs.Option.{option_or}
use Rattle.std.proofs.Math.Seq.{drop-cons}
use Rattle.std.proofs.Common.{add-one, drop_of_length-le}
use Rattle.font_cmap.specs.Choice.{subtable_of, first_subtable}
use Rattle.font_cmap.specs.Codes.{glyph_index, other_code, own_code}
use Rattle.font_cmap.specs.Subtables.{subtable_glyph}
use Rattle.font_cmap.specs.declared.codes.Encoding.{Encoding}
use Rattle.font_cmap.specs.declared.codes.Encoding.TheVariants.{Unicode, Symbol, SimplifiedArabic}
use Rattle.font_cmap.specs.declared.codes.Encoding.TheVariants.{TraditionalArabic}
use Rattle.font_cmap.specs.declared.codes.Encoding.TheVariants.{MacintoshRoman, Macintosh}

pub own_code_first : (encoding : Encoding) (character : ℕ) → character < 128 → own_code encoding character ≡ Some character
unfolding own_code
own_code_first MacintoshRoman character less = let here : nat_lt character 128 ≡ true = grind (arith, nat_tests) in rw here refl
own_code_first Macintosh character less = let here : nat_lt character 128 ≡ true = grind (arith, nat_tests) in rw here refl
own_code_first Unicode character less = refl
own_code_first Symbol character less = refl
own_code_first SimplifiedArabic character less = refl
own_code_first TraditionalArabic character less = refl

option_or-none : (glyph : Option ℕ) → option_or glyph None ≡ glyph
option_or-none None = refl
option_or-none (Some g) = refl

-- a character of Unicode has no other code than its number
pub glyph_index-unicode : (table : List ℕ) (character : ℕ) → glyph_index table Unicode character ≡ subtable_glyph table character
unfolding glyph_index own_code other_code
glyph_index-unicode table character = option_or-none (subtable_glyph table character)

module _ (bs : List ℕ) (es : List (ℕ × ℕ)) (i : ℕ) where
  abbrev here : ℕ × ℕ
  here = get_or es i (0, 0)

  next : i < length es → first_subtable bs (drop i es)
      ≡ option_or (subtable_of bs here.0 (Some here.1)) (first_subtable bs (drop (i + 1) es))
  unfolding first_subtable
  next within = rw (drop-cons es i (0, 0), add-one) refl

  pub first_here : (subtable : List ℕ) → i < length es → subtable_of bs here.0 (Some here.1) ≡ Some subtable
      → first_subtable bs (drop i es) ≡ Some subtable
  first_here subtable within is = next within ∙ ap (λ o. option_or o (first_subtable bs (drop (i + 1) es))) is

  pub first_behind : i < length es → subtable_of bs here.0 (Some here.1) ≡ None
      → first_subtable bs (drop i es) ≡ first_subtable bs (drop (i + 1) es)
  first_behind within is = next within ∙ ap (λ o. option_or o (first_subtable bs (drop (i + 1) es))) is

  pub first_end : length es ≤ i → first_subtable bs (drop i es) ≡ None
  unfolding first_subtable
  first_end after = ap (first_subtable bs) (drop_of_length-le es after)
