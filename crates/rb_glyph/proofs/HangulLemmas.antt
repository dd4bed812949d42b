-- A triple of Hangul composition is known by its two parts, and by its syllable.
use Rattle.std.proofs.Common.{◌≡◌, ◌+◌, ◌/◌, ◌%◌, ◌<◌, ◌≤◌, ◌↔◌, ℕ, Option, Some, None, inl, inr, refl, sym, ap, subst}
use Rattle.std.proofs.Common.{◌∙◌, arith}
use Rattle.rb_glyph.specs.Hangul.{HangulComposes, LeadingComposes, TrailingComposes, ComposesTo, DecomposesTo}

-- an answer with a value is `Some s` exactly where the relation holds of s, if it holds of that value and of no other
pub exactly : (C : ℕ → Type 0) (answer : Option ℕ) (v : ℕ) → answer ≡ Some v → C v → ((s : ℕ) → C s → s ≡ v) → (s : ℕ)
    → (answer ≡ Some s) ↔ C s
exactly C answer v is has one s =
    (λ e. let k : s ≡ v = cc in subst C (sym k) has, λ h. is ∙ ap (λ x. Some x) (sym (one s h)))

pub exactly_pair : (C : ℕ → ℕ → Type 0) (x y : ℕ) → C x y → ((a b : ℕ) → C a b → (a ≡ x) × (b ≡ y)) → (a b : ℕ)
    → (◌≡◌ {A = Option (ℕ × ℕ)} (Some (x, y)) (Some (a, b))) ↔ C a b
exactly_pair C x y has one a b = (λ e. from_pair (pair_of e), λ h. to_pair (one a b h)) where
  pair_of : ◌≡◌ {A = Option (ℕ × ℕ)} (Some (x, y)) (Some (a, b)) → (x ≡ a) × (y ≡ b)
  pair_of e = let k : ◌≡◌ {A = ℕ × ℕ} (x, y) (a, b) = cc in (ap (λ p. p.0) k, ap (λ p. p.1) k)

  from_pair : (x ≡ a) × (y ≡ b) → C a b
  from_pair k = subst (λ n. C n b) k.0 (subst (λ n. C x n) k.1 has)

  to_pair : (a ≡ x) × (b ≡ y) → ◌≡◌ {A = Option (ℕ × ℕ)} (Some (x, y)) (Some (a, b))
  to_pair k = ap {A = ℕ} {B = Option (ℕ × ℕ)} (λ n. Some (n, y)) (sym k.0)
      ∙ ap {A = ℕ} {B = Option (ℕ × ℕ)} (λ n. Some (a, n)) (sym k.1)

-- a syllable without a trailing consonant, by its index, and the t-th trailing consonant
pub of_trailing : (s a b index t : ℕ) → a ≡ 0xAC00 + index → b ≡ 0x11A7 + t → s ≡ a + t → index < 11172 → index % 28 ≡ 0
    → 1 ≤ t → t < 28
    → TrailingComposes s a b
of_trailing s a b index t a_is b_is s_is within whole some below = record {
  i = index / 28 / 21;
  j = index / 28 % 21;
  t = t;
  leading = omega arith;
  vowel = omega arith;
  some = some;
  trailing = below;
  first = omega arith;
  syllable = s_is;
  second = b_is;
}

pub one_syllable : (s t a b : ℕ) → HangulComposes s a b → HangulComposes t a b → s ≡ t
one_syllable s t a b (inl p) (inl q) = omega arith
one_syllable s t a b (inl p) (inr q) = absurd (omega arith)
one_syllable s t a b (inr p) (inl q) = absurd (omega arith)
one_syllable s t a b (inr p) (inr q) = omega arith

pub one_pair : (s a b c d : ℕ) → HangulComposes s a b → HangulComposes s c d → (a ≡ c) × (b ≡ d)
one_pair s a b c d (inl p) (inl q) = (omega arith, omega arith)
one_pair s a b c d (inl p) (inr q) = absurd (omega arith)
one_pair s a b c d (inr p) (inl q) = absurd (omega arith)
one_pair s a b c d (inr p) (inr q) = (omega arith, omega arith)

-- the two ways to compose share no pair
pub by_leading : (a b v : ℕ) → ((s : ℕ) → (Some v ≡ Some s) ↔ LeadingComposes s a b) → (s : ℕ)
    → (Some v ≡ Some s) ↔ HangulComposes s a b
by_leading a b v exact s = (λ e. inl ((exact s).0 e), back) where
  back : HangulComposes s a b → Some v ≡ Some s
  back (inl p) = (exact s).1 p
  back (inr q) = let p : LeadingComposes v a b = (exact v).0 refl in absurd (omega arith)

pub by_trailing : (a b : ℕ) (leading trailing : Option ℕ) → leading ≡ None
    → ((s : ℕ) → (leading ≡ Some s) ↔ LeadingComposes s a b)
    → ((s : ℕ) → (trailing ≡ Some s) ↔ TrailingComposes s a b) → (s : ℕ) → (trailing ≡ Some s) ↔ HangulComposes s a b
by_trailing a b leading trailing none exact_leading exact s = (λ e. inr ((exact s).0 e), back) where
  back : HangulComposes s a b → trailing ≡ Some s
  back (inl p) = let e : leading ≡ Some s = (exact_leading s).1 p in cc
  back (inr q) = (exact s).1 q

pub both_ways : (s a b : ℕ) (composed : Option ℕ) (decomposed : Option (ℕ × ℕ)) → ComposesTo a b composed
    → DecomposesTo s decomposed
    → (composed ≡ Some s) ↔ (decomposed ≡ Some (a, b))
both_ways s a b composed decomposed to from = (λ e. (from a b).1 ((to s).0 e), λ e. (to s).1 ((from a b).0 e))
