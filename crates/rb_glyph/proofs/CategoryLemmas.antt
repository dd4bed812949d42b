-- The categories stand in the order of their numbers.
use Rattle.std.proofs.Common.{◌≡◌, ◌+◌, ◌<◌, ℕ, zero, suc, Bool, true, List, [], ◌∷◌, length, get_or, ◌==◌, refl, ◌∙◌}
use Rattle.std.proofs.Common.{arith}
use Rattle.std.specs.Prelude.{◌&&◌}
use Rattle.std.proofs.lemmas.Bool.{and_parts, eqb-true}
use Rattle.rb_glyph.specs.declared.category.hb_unicode_general_category_t.{hb_unicode_general_category_t}
use Rattle.rb_glyph.specs.declared.category.hb_unicode_general_category_t.TheVariants.{Unassigned}
use Rattle.rb_glyph.specs.Category.{number_of, category_of, categories}

-- the numbers of these categories are first, first + 1 and so on
abbrev counts_from : ℕ → List hb_unicode_general_category_t → Bool
counts_from first [] = true
counts_from first (category ∷ rest) = (number_of category == first) && counts_from (first + 1) rest

number_of-counted : (first : ℕ) (listed : List hb_unicode_general_category_t) (n : ℕ) → counts_from first listed ≡ true
    → n < length listed
    → number_of (get_or listed n Unassigned) ≡ first + n
number_of-counted first [] n h below = absurd (omega arith)
number_of-counted first (category ∷ rest) zero h below =
    let is : number_of category ≡ first = eqb-true (number_of category) first (and_parts _ _ h).0 in
    omega arith
number_of-counted first (category ∷ rest) (suc n) h below =
    let next : number_of (get_or rest n Unassigned) ≡ first + 1 + n =
    number_of-counted (first + 1) rest n (and_parts (number_of category == first) (counts_from (first + 1) rest) h).1
    (let k : n < length rest = omega arith in k) in
    omega arith

pub number_of_category : (n : ℕ) → n < 30 → number_of (category_of n) ≡ n
number_of_category n below =
    let is : number_of (get_or categories n Unassigned) ≡ 0 + n = number_of-counted 0 categories n refl below in
    is ∙ omega arith
