-- Hangul composition, after the Unicode Standard, section 3.12: which two characters make which syllable. Syllables
-- begin at U+AC00. There are 19 leading consonants from U+1100 on, 21 vowels from U+1161 on, and 28 choices of a trailing
-- consonant: none, or one of those from U+11A8 on.
use Rattle.std.specs.Prelude.{ℕ, ◌≡◌, ◌+◌, ◌*◌, ◌<◌, ◌≤◌, ◌⊎◌, ◌↔◌, Option, Some}

-- The i-th leading consonant and the j-th vowel make a syllable without a trailing consonant.
pub record LeadingComposes (s a b : ℕ) : Type 0 where
  pub i : ℕ
  pub j : ℕ
  pub leading : i < 19
  pub vowel : j < 21
  pub syllable : s ≡ 0xAC00 + (i * 21 + j) * 28
  pub first : a ≡ 0x1100 + i
  pub second : b ≡ 0x1161 + j

-- Such a syllable and the t-th trailing consonant, from 1 on, make a syllable with it.
pub record TrailingComposes (s a b : ℕ) : Type 0 where
  pub i : ℕ
  pub j : ℕ
  pub t : ℕ
  pub leading : i < 19
  pub vowel : j < 21
  pub some : 1 ≤ t
  pub trailing : t < 28
  pub first : a ≡ 0xAC00 + (i * 21 + j) * 28
  pub syllable : s ≡ a + t
  pub second : b ≡ 0x11A7 + t

-- The characters a and b make the syllable s.
abbrev pub HangulComposes : ℕ → ℕ → ℕ → Type 0
HangulComposes s a b = LeadingComposes s a b ⊎ TrailingComposes s a b

-- An answer names the syllable of a and b exactly where there is one.
abbrev pub ComposesTo : ℕ → ℕ → Option ℕ → Type 0
ComposesTo a b answer = (s : ℕ) → (answer ≡ Some s) ↔ HangulComposes s a b

-- An answer names the two characters that make s exactly where there are two.
abbrev pub DecomposesTo : ℕ → Option (ℕ × ℕ) → Type 0
DecomposesTo s answer = (a b : ℕ) → (answer ≡ Some (a, b)) ↔ HangulComposes s a b

-- Each pair makes one syllable at most, each syllable is made of one pair at most, and the two answers agree.
pub record HangulAgrees : Type 0 where
  pub one_syllable : (s t a b : ℕ) → HangulComposes s a b → HangulComposes t a b → s ≡ t
  pub one_pair : (s a b c d : ℕ) → HangulComposes s a b → HangulComposes s c d → (a ≡ c) × (b ≡ d)
  pub both_ways : (s a b : ℕ) (composed : Option ℕ) (decomposed : Option (ℕ × ℕ)) → ComposesTo a b composed
      → DecomposesTo s decomposed
      → (composed ≡ Some s) ↔ (decomposed ≡ Some (a, b))
