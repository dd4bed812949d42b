-- The subtags of a text are the first and those of what stands behind it.
use Rattle.std.proofs.Common.{◌≡◌, ℕ, ◌+◌, ◌<◌, ◌⊎◌, Bool, true, false, ◌||◌, List, [], ◌∷◌, length, take, refl, sym, ◌∙◌, ap}
use Rattle.std.proofs.Common.{inl, inr, arith, take_all, length-drop}
use Rattle.std.specs.List.{list_any, slice_split, position_or_len}
use Rattle.std.specs.Str.{bytes_eq}
use Rattle.std.proofs.lemmas.Bool.{cases_lt}
use Rattle.std.proofs.lemmas.List.{drop_all}
use Rattle.std.proofs.lemmas.List.Splits.{slice_split_first, slice_split_none}
use Rattle.std.proofs.lemmas.List.Sums.{fails_before_first}
use Rattle.rb_text.specs.LanguageCut.{is_hyphen}
use Rattle.ot_tags.specs.Subtags.{subtags, first_subtag, behind_first, has_subtag}

parts : (text : List ℕ) → (subtags text ≡ first_subtag text ∷ subtags (behind_first text))
    ⊎ ((subtags text ≡ first_subtag text ∷ []) × (behind_first text ≡ []))
unfolding first_subtag behind_first
parts text = elim (cases_lt (position_or_len is_hyphen text) (length text)) [
  | inl within ↦ inl (slice_split_first is_hyphen text 0 within)
  | inr none ↦
      let at : ℕ = position_or_len is_hyphen text in
      let alone : slice_split is_hyphen text ≡ text ∷ [] = slice_split_none is_hyphen text
      (λ k d within. fails_before_first is_hyphen text k d (omega arith)) in
      let whole : take at text ≡ text = take_all at text none in
      inr (alone ∙ ap (λ (part : List ℕ). part ∷ []) (sym whole), drop_all (at + 1) text (omega arith))
]

abbrev any : List ℕ → List (List ℕ) → Bool
any subtag parts = list_any (λ part. bytes_eq part subtag) parts

any_of_none : (subtag : List ℕ) → 0 < length subtag → any subtag (subtags []) ≡ false
any_of_none [] some = absurd (omega arith)
any_of_none (b ∷ bs) some = refl

-- the first subtag is one
pub has_first : (text subtag : List ℕ) → bytes_eq (first_subtag text) subtag ≡ true → has_subtag text subtag ≡ true
unfolding has_subtag
has_first text subtag same = elim (parts text) [
  | inl more ↦
      ap (any subtag) more ∙ ap (λ (b : Bool). b || any subtag (subtags (behind_first text))) same
  | inr last ↦ ap (any subtag) last.0 ∙ ap (λ (b : Bool). b || false) same
]

-- where the first is another, those behind it have the subtag where all have it
pub has_subtag_behind : (text subtag : List ℕ) → 0 < length subtag → bytes_eq (first_subtag text) subtag ≡ false
    → has_subtag (behind_first text) subtag ≡ has_subtag text subtag
unfolding has_subtag
has_subtag_behind text subtag some other = elim (parts text) [
  | inl more ↦
      sym (ap (any subtag) more ∙ ap (λ (b : Bool). b || any subtag (subtags (behind_first text))) other)
  | inr last ↦
      ap (λ (rest : List ℕ). any subtag (subtags rest)) last.1 ∙ any_of_none subtag some
      ∙ sym (ap (any subtag) last.0 ∙ ap (λ (b : Bool). b || false) other)
]

-- nothing has it
pub has_none : (text subtag : List ℕ) → length text ≡ 0 → 0 < length subtag → has_subtag text subtag ≡ false
unfolding has_subtag
has_none [] subtag empty some = any_of_none subtag some
has_none (b ∷ bs) subtag empty some = absurd (omega arith)

-- each step leaves less
pub behind_shorter : (text : List ℕ) → 0 < length text → length (behind_first text) < length text
unfolding behind_first
behind_shorter text some = omega (arith, length-drop (position_or_len is_hyphen text + 1) text)
