-- The words of the first 256 glyphs.
use Rattle.std.proofs.Common.{◌≡◌, ℕ, ◌/◌, ◌<◌, ◌≤◌, List, [], ◌∷◌, true, arith, inl, inr, length}
use Rattle.std.proofs.lemmas.Bool.{cases_eq, cases_lt}
use Rattle.std.proofs.lemmas.Grind.{common_steps}
use Rattle.std.proofs.lemmas.List.{get_or-set_same, get_or-set_other}
use Rattle.std.specs.Prelude.{slice_index_or, slice_set}
use Rattle.glyph_digests.specs.Digest.{has_row}
use Rattle.glyph_digests.specs.FirstGlyphs.{may_have_first}
use Rattle.glyph_digests.specs.declared.first_glyphs.FirstGlyphs.{FirstGlyphs}

-- a glyph's bit stands in the word of its 64 glyphs
has_row-word : (a b c d g : ℕ) → g < 256
    → (g / 64 ≡ 0 → has_row a g ≡ true) → (g / 64 ≡ 1 → has_row b g ≡ true)
    → (g / 64 ≡ 2 → has_row c g ≡ true) → (g / 64 ≡ 3 → has_row d g ≡ true)
    → has_row (slice_index_or (a ∷ b ∷ c ∷ d ∷ []) (g / 64) 0) g ≡ true
has_row-word a b c d g within first second third fourth =
    elim (cases_lt g 64) [
      | inl low ↦ let at : g / 64 ≡ 0 = omega arith in rw at (first at)
      | inr from ↦ elim (cases_lt g 128) [
        | inl low ↦ let at : g / 64 ≡ 1 = omega arith in rw at (second at)
        | inr from2 ↦ elim (cases_lt g 192) [
          | inl low ↦ let at : g / 64 ≡ 2 = omega arith in rw at (third at)
          | inr from3 ↦ let at : g / 64 ≡ 3 = omega arith in rw at (fourth at)
        ]
      ]
    ]

-- a glyph past the first 256 may be in any set
pub may_have_first-past : (firsts : FirstGlyphs) (g : ℕ) → 256 ≤ g → may_have_first firsts g ≡ true
unfolding may_have_first
may_have_first-past firsts g from = grind (arith, common_steps)

-- one of the first 256 glyphs is in a set where its bit says so
pub may_have_first-words : (a b c d g : ℕ)
    → (g / 64 ≡ 0 → has_row a g ≡ true) → (g / 64 ≡ 1 → has_row b g ≡ true)
    → (g / 64 ≡ 2 → has_row c g ≡ true) → (g / 64 ≡ 3 → has_row d g ≡ true)
    → may_have_first (record { words = a ∷ b ∷ c ∷ d ∷ [] }) g ≡ true
unfolding may_have_first
may_have_first-words a b c d g first second third fourth =
    elim (cases_lt g 256) [
      | inl low ↦
          let bit = has_row-word a b c d g low first second third fourth in
          grind (arith, common_steps)
      | inr from ↦ may_have_first-past (record { words = a ∷ b ∷ c ∷ d ∷ [] }) g from
    ]

-- where each word has the bits that another one had, the set has the glyphs of the other one
pub may_have_first-kept : (firsts : FirstGlyphs) (a b c d g : ℕ)
    → ((row : ℕ) → has_row (slice_index_or firsts.words 0 0) row ≡ true → has_row a row ≡ true)
    → ((row : ℕ) → has_row (slice_index_or firsts.words 1 0) row ≡ true → has_row b row ≡ true)
    → ((row : ℕ) → has_row (slice_index_or firsts.words 2 0) row ≡ true → has_row c row ≡ true)
    → ((row : ℕ) → has_row (slice_index_or firsts.words 3 0) row ≡ true → has_row d row ≡ true)
    → may_have_first firsts g ≡ true → may_have_first (record { words = a ∷ b ∷ c ∷ d ∷ [] }) g ≡ true
unfolding may_have_first
may_have_first-kept firsts a b c d g first second third fourth has =
    elim (cases_lt g 256) [
      | inl low ↦
          let bit : has_row (slice_index_or firsts.words (g / 64) 0) g ≡ true = grind (arith, common_steps) in
          may_have_first-words a b c d g (λ at. first g (rw at at bit)) (λ at. second g (rw at at bit))
          (λ at. third g (rw at at bit)) (λ at. fourth g (rw at at bit))
      | inr from ↦ may_have_first-past (record { words = a ∷ b ∷ c ∷ d ∷ [] }) g from
    ]

-- a set of which one word was written has the glyphs whose bits stand in it
pub may_have_first-in_word : (words : List ℕ) (at word g : ℕ) → length words ≡ 4 → g / 64 ≡ at → has_row word g ≡ true
    → may_have_first (record { words = slice_set words at word }) g ≡ true
unfolding may_have_first
may_have_first-in_word words at word g long here has =
    elim (cases_lt g 256) [
      | inl low ↦
          let written : slice_index_or (slice_set words at word) (g / 64) 0 ≡ word =
          rw here (get_or-set_same words at word 0 (omega (arith, long, here, low))) in
          let bit : has_row (slice_index_or (slice_set words at word) (g / 64) 0) g ≡ true = rw written has in
          grind (arith, common_steps)
      | inr from ↦ may_have_first-past (record { words = slice_set words at word }) g from
    ]

-- and those that it had, where the word has the bits that it had
pub may_have_first-written : (firsts : FirstGlyphs) (at word g : ℕ) → length firsts.words ≡ 4 → at < 4
    → ((row : ℕ) → has_row (slice_index_or firsts.words at 0) row ≡ true → has_row word row ≡ true)
    → may_have_first firsts g ≡ true → may_have_first (record { words = slice_set firsts.words at word }) g ≡ true
unfolding may_have_first
may_have_first-written firsts at word g long within kept has =
    elim (cases_lt g 256) [
      | inl low ↦
          let bit : has_row (slice_index_or firsts.words (g / 64) 0) g ≡ true = grind (arith, common_steps) in
          elim (cases_eq (g / 64) at) [
            | inl here ↦ may_have_first-in_word firsts.words at word g long here (kept g (rw here at bit))
            | inr other ↦
                let same : slice_index_or (slice_set firsts.words at word) (g / 64) 0 ≡ slice_index_or firsts.words (g / 64) 0 =
                get_or-set_other firsts.words at (g / 64) word 0 other in
                let stays : has_row (slice_index_or (slice_set firsts.words at word) (g / 64) 0) g ≡ true = rw same bit in
                grind (arith, common_steps)
          ]
      | inr from ↦ may_have_first-past (record { words = slice_set firsts.words at word }) g from
    ]
