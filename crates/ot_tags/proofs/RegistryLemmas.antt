-- The row of a code, in rows whose codes rise.
use Rattle.std.proofs.Common.{◌≡◌, ℕ, zero, suc, ◌+◌, ◌*◌, ◌/◌, ◌<◌, ◌≤◌, true, false, List, [], ◌∷◌, ◌++◌}
use Rattle.std.proofs.Common.{length, get_or, take, drop, map, Option, Some, None, option_map, option_to_list, refl, sym, ap}
use Rattle.std.proofs.Common.{subst, ◌∙◌, inl, inr, arith, drop-drop}
use Rattle.std.specs.Ordering.{nat_cmp, is_lt, is_eq, ordering_reverse}
use Rattle.std.specs.Cmp.Lexicographic.{slice_cmp}
use Rattle.std.specs.declared.cmp.Ordering.{Ordering}
use Rattle.std.specs.declared.cmp.Ordering.TheVariants.{Less, Equal, Greater}
use Rattle.std.specs.Simd.{first_chunks}
use Rattle.std.specs.Str.{bytes_eq}
use Rattle.std.proofs.lemmas.Bool.{cases_lt, and_parts}
use Rattle.std.proofs.lemmas.Cmp.{nat_list_cmp_total, alike_right}
use Rattle.std.proofs.lemmas.Map.Text.{is_eq-slice_cmp}
use Rattle.rb_common.specs.declared.tag.Tag.{Tag}
use Rattle.rb_text.specs.LanguageTable.{is_below}
use Rattle.ot_tags.specs.Registry.{rows_of, registry, code_of, row_of, codes_rise, tag_of_cell, tags_of_row}

-- the codes of the registry rise
pub registry_rises : codes_rise registry ≡ true
unfolding codes_rise registry rows_of
registry_rises = refl

-- a text in rows of sixteen bytes

get_or_chunk : (n : ℕ) (text : List ℕ) (k : ℕ) → k < n → get_or (first_chunks 16 n text) k [] ≡ take 16 (drop (16 * k) text)
get_or_chunk zero text k within = absurd (omega arith)
get_or_chunk (suc n) text zero within = refl
get_or_chunk (suc n) text (suc k) within =
    let place : 16 + 16 * k ≡ 16 * suc k = omega arith in
    get_or_chunk n (drop 16 text) k (omega arith)
    ∙ ap (λ (rest : List ℕ). take 16 rest) (drop-drop (16 * k) 16 text ∙ ap (λ (m : ℕ). drop m text) place)

pub get_or_row : (text : List ℕ) (k : ℕ) → k < length text / 16 → get_or (rows_of text) k [] ≡ take 16 (drop (16 * k) text)
unfolding rows_of
get_or_row text k within = get_or_chunk (length text / 16) text k within

length-chunks : (n : ℕ) (text : List ℕ) → length (first_chunks 16 n text) ≡ n
length-chunks zero text = refl
length-chunks (suc n) text = ap (λ (m : ℕ). suc m) (length-chunks n (drop 16 text))

pub length-rows_of : (text : List ℕ) → length (rows_of text) ≡ length text / 16
unfolding rows_of
length-rows_of text = length-chunks (length text / 16) text

-- the order of codes

abbrev pub order : List ℕ → List ℕ → Ordering
order a b = slice_cmp nat_cmp a b

is_less : (r : Ordering) → is_lt r ≡ true → r ≡ Less
is_less Less h = refl
is_less Equal h = absurd (cc)
is_less Greater h = absurd (cc)

order_flipped : (a b : List ℕ) (r : Ordering) → order a b ≡ r → order b a ≡ ordering_reverse r
order_flipped a b r e = nat_list_cmp_total.antisymm b a ∙ ap ordering_reverse e

less_differs : (a k : List ℕ) → order a k ≡ Less → bytes_eq a k ≡ false
less_differs a k e = sym (is_eq-slice_cmp a k) ∙ ap is_eq e

greater_differs : (a k : List ℕ) → order a k ≡ Greater → bytes_eq a k ≡ false
greater_differs a k e = sym (is_eq-slice_cmp a k) ∙ ap is_eq e

equal_same : (a k : List ℕ) → order a k ≡ Equal → bytes_eq a k ≡ true
equal_same a k e = sym (is_eq-slice_cmp a k) ∙ ap is_eq e

-- the code of the row at a place
abbrev pub code_at : List (List ℕ) → ℕ → List ℕ
code_at rows k = code_of (get_or rows k [])

-- an earlier code is below a later one
order_earlier_below : (rows : List (List ℕ)) → codes_rise rows ≡ true → (i j : ℕ) → i < j → j < length rows
    → order (code_at rows i) (code_at rows j) ≡ Less
unfolding codes_rise
order_earlier_below [] rise i j before within = absurd (omega arith)
order_earlier_below (a ∷ []) rise i j before within = absurd (omega arith)
order_earlier_below (a ∷ (b ∷ rows)) rise zero zero before within = absurd (omega arith)
order_earlier_below (a ∷ (b ∷ rows)) rise (suc i) zero before within = absurd (omega arith)
order_earlier_below (a ∷ (b ∷ rows)) rise (suc i) (suc j) before within =
    let parts = and_parts (is_below (code_of a) (code_of b)) (codes_rise (b ∷ rows)) rise in
    order_earlier_below (b ∷ rows) parts.1 i j (omega arith) (omega arith)
order_earlier_below (a ∷ (b ∷ rows)) rise zero (suc zero) before within =
    let parts = and_parts (is_below (code_of a) (code_of b)) (codes_rise (b ∷ rows)) rise in is_less _ parts.0
order_earlier_below (a ∷ (b ∷ rows)) rise zero (suc (suc j)) before within =
    let parts = and_parts (is_below (code_of a) (code_of b)) (codes_rise (b ∷ rows)) rise in
    nat_list_cmp_total.trans (code_of a) (code_of b) (code_at (b ∷ rows) (suc j)) (is_less _ parts.0)
    (order_earlier_below (b ∷ rows) parts.1 zero (suc j) (omega arith) (omega arith))

-- where no row has a code, none is its row
pub row_of-none : (rows : List (List ℕ)) (code : List ℕ)
    → ((k : ℕ) → k < length rows → bytes_eq (code_at rows k) code ≡ false) → row_of code rows ≡ None
row_of-none [] code none = refl
row_of-none (row ∷ rows) code none =
    rw (none 0 (omega arith)) (row_of-none rows code (λ k within. none (suc k) (omega arith)))

row_of_first : (rows : List (List ℕ)) (code : List ℕ) (at : ℕ) → at < length rows → bytes_eq (code_at rows at) code ≡ true
    → ((k : ℕ) → k < at → bytes_eq (code_at rows k) code ≡ false) → row_of code rows ≡ Some (get_or rows at [])
row_of_first [] code at within here before = absurd (omega arith)
row_of_first (row ∷ rows) code zero within here before = rw here refl
row_of_first (row ∷ rows) code (suc at) within here before =
    rw (before 0 (omega arith))
    (row_of_first rows code at (omega arith) here (λ k earlier. before (suc k) (omega arith)))

module _ (rows : List (List ℕ)) (rise : codes_rise rows ≡ true) (code : List ℕ) (at : ℕ) (within : at < length rows) where
  -- a row that has a code is the first one
  pub row_of-found : order (code_at rows at) code ≡ Equal → row_of code rows ≡ Some (get_or rows at [])
  row_of-found here =
      row_of_first rows code at within (equal_same (code_at rows at) code here)
      (λ k earlier. less_differs (code_at rows k) code
      (sym (alike_right nat_list_cmp_total (code_at rows at) code (code_at rows k) here)
      ∙ order_earlier_below rows rise k at earlier within))

  -- up to a row below a code, none has it
  pub none_up_to : order (code_at rows at) code ≡ Less → (k : ℕ) → k < at + 1 → bytes_eq (code_at rows k) code ≡ false
  none_up_to low k up =
      elim (cases_lt k at) [
        | inl before ↦
            less_differs (code_at rows k) code
            (nat_list_cmp_total.trans (code_at rows k) (code_at rows at) code (order_earlier_below rows rise k at before within) low)
        | inr from ↦
            let same : at ≡ k = omega arith in
            less_differs (code_at rows k) code (subst (λ (n : ℕ). order (code_at rows n) code ≡ Less) same low)
      ]

  -- from a row above it on, none has it
  pub none_from : order (code_at rows at) code ≡ Greater → (k : ℕ) → at ≤ k → k < length rows
      → bytes_eq (code_at rows k) code ≡ false
  none_from high k from inside =
      elim (cases_lt at k) [
        | inl behind ↦
            let past : order code (code_at rows k) ≡ Less = nat_list_cmp_total.trans code (code_at rows at) (code_at rows k)
            (order_flipped (code_at rows at) code Greater high) (order_earlier_below rows rise at k behind inside) in
            greater_differs (code_at rows k) code (order_flipped code (code_at rows k) Less past)
        | inr upto ↦
            let same : at ≡ k = omega arith in
            greater_differs (code_at rows k) code (subst (λ (n : ℕ). order (code_at rows n) code ≡ Greater) same high)
      ]

-- the numbers of three tags

abbrev numbers : List Tag → List ℕ
numbers tags = map (λ (t : Tag). t.0) tags

abbrev number : Option Tag → Option ℕ
number tag = option_map (λ (t : Tag). t.0) tag

numbers_of : (a b c : Option Tag) → numbers (option_to_list a ++ option_to_list b ++ option_to_list c)
    ≡ option_to_list (number a) ++ option_to_list (number b) ++ option_to_list (number c)
numbers_of None None None = refl
numbers_of None None (Some c) = refl
numbers_of None (Some b) None = refl
numbers_of None (Some b) (Some c) = refl
numbers_of (Some a) None None = refl
numbers_of (Some a) None (Some c) = refl
numbers_of (Some a) (Some b) None = refl
numbers_of (Some a) (Some b) (Some c) = refl

-- the tags of a row's cells are those of the row
pub numbers_of_cells : (row : List ℕ) (a b c : Option Tag) → number a ≡ tag_of_cell (drop 3 row)
    → number b ≡ tag_of_cell (drop 7 row) → number c ≡ tag_of_cell (drop 11 row)
    → numbers (option_to_list a ++ option_to_list b ++ option_to_list c) ≡ tags_of_row row
numbers_of_cells row a b c first second third =
    numbers_of a b c
    ∙ ap (λ (x : Option ℕ). option_to_list x ++ option_to_list (number b) ++ option_to_list (number c)) first
    ∙ ap (λ (x : Option ℕ). option_to_list (tag_of_cell (drop 3 row)) ++ option_to_list x ++ option_to_list (number c)) second
    ∙ ap (λ (x : Option ℕ). option_to_list (tag_of_cell (drop 3 row)) ++ option_to_list (tag_of_cell (drop 7 row))
    ++ option_to_list x) third
