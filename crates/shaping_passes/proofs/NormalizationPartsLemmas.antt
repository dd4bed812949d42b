-- The rules of Hangul as functions meet those rules as relations.
use Rattle.std.proofs.Common.{◌≡◌, ℕ, ◌+◌, ◌-◌, ◌*◌, ◌/◌, ◌%◌, ◌<◌, ◌≤◌, ◌⊎◌, ◌&&◌, inl, inr, Bool, true, false, List}
use Rattle.std.proofs.Common.{Option, Some, None, sym, ap, ◌∙◌, arith, eqb, leb}
use Rattle.std.proofs.lemmas.Bool.{cond_both, cond-true, cond-false, and_parts, and_cases, and_from, and_left, and_right}
use Rattle.std.proofs.lemmas.Bool.{or_left, or_right, or_from, leb-true, leb-false, le-leb, lt-leb, lt-ltb, le-ltb}
use Rattle.std.proofs.lemmas.Bool.{eqb-true, eqb-false}
use Rattle.std.specs.Char.{InScalarRange, OutOfScalarRange}
use Rattle.std.specs.Int.{is_in_range}
use Rattle.std.specs.Option.{option_or}
use Rattle.rb_glyph.specs.Hangul.{HangulComposes, LeadingComposes, TrailingComposes}
use Rattle.rb_glyph.specs.Tables.{composition_of, decomposition_of}
use Rattle.rb_glyph.specs.Characters.{modified_combining_class}
use Rattle.shaping_passes.specs.NormalizationParts.{is_character, hangul_parts, hangul_syllable, parts_of, composed_of}
use Rattle.shaping_passes.specs.NormalizationParts.{class_of}

within : (lo hi c : ℕ) → is_in_range lo hi c ≡ true → (lo ≤ c) × (c ≤ hi)
within lo hi c e =
    let both = and_parts (leb lo c) (leb c hi) e in (leb-true lo c both.0, leb-true c hi both.1)

outside : (lo hi c : ℕ) → is_in_range lo hi c ≡ false → (c < lo) ⊎ (hi < c)
outside lo hi c e =
    elim (and_cases (leb lo c) (leb c hi) e) [
      | inl low ↦ inl (leb-false lo c low)
      | inr high ↦ inr (leb-false c hi high)
    ]

no_syllable : (s a b : ℕ) → (s < 0xAC00) ⊎ (0xD7A3 < s) → HangulComposes s a b → ⊥
no_syllable s a b (inl low) (inl p) = omega arith
no_syllable s a b (inl low) (inr p) = omega arith
no_syllable s a b (inr high) (inl p) = omega arith
no_syllable s a b (inr high) (inr p) = omega arith

leading : (s n : ℕ) → s ≡ 0xAC00 + n → n < 11172 → n % 28 ≡ 0
    → LeadingComposes s (0x1100 + n / 28 / 21) (0x1161 + n / 28 % 21)
leading s n s_is few whole = record {
  i = n / 28 / 21;
  j = n / 28 % 21;
  leading = omega arith;
  vowel = omega arith;
  syllable = omega arith;
  first = omega arith;
  second = omega arith;
}

trailing : (s n : ℕ) → s ≡ 0xAC00 + n → n < 11172 → 1 ≤ n % 28 → TrailingComposes s (s - n % 28) (0x11A7 + n % 28)
trailing s n s_is few more = record {
  i = n / 28 / 21;
  j = n / 28 % 21;
  t = n % 28;
  leading = omega arith;
  vowel = omega arith;
  some = more;
  trailing = omega arith;
  first = omega arith;
  syllable = omega arith;
  second = omega arith;
}

pub decomposed_is : (c : ℕ) (other r : Option (ℕ × ℕ)) → ((a b : ℕ) → HangulComposes c a b → r ≡ Some (a, b))
    → (((a b : ℕ) → ¬ HangulComposes c a b) → r ≡ other) → r ≡ option_or (hangul_parts c) other
unfolding hangul_parts
decomposed_is c other r hangul table =
    let n = c - 0xAC00 in
    let P : Option (ℕ × ℕ) → Type 0 = λ p. r ≡ option_or p other in
    cond_both (is_in_range 0xAC00 0xD7A3 c) _ _ P
    (λ syllable.
    let in_range = within 0xAC00 0xD7A3 c syllable in
    cond_both (eqb (n % 28) 0) _ _ P
    (λ whole. hangul _ _ (inl (leading c n (omega arith) (omega arith) (eqb-true (n % 28) 0 whole))))
    (λ more. let some = eqb-false (n % 28) 0 more in
    hangul _ _ (inr (trailing c n (omega arith) (omega arith) (omega arith)))))
    (λ none. table (λ a b. no_syllable c a b (outside 0xAC00 0xD7A3 c none)))

-- ---- composition

composes_leading : (a b : ℕ) → (0x1100 ≤ a) × (a ≤ 0x1112) → (0x1161 ≤ b) × (b ≤ 0x1175)
    → LeadingComposes (0xAC00 + ((a - 0x1100) * 21 + (b - 0x1161)) * 28) a b
composes_leading a b first second = record {
  i = a - 0x1100;
  j = b - 0x1161;
  leading = omega arith;
  vowel = omega arith;
  syllable = omega arith;
  first = omega arith;
  second = omega arith;
}

composes_trailing : (a b : ℕ) → (0xAC00 ≤ a) × (a ≤ 0xD7A3) → (a - 0xAC00) % 28 ≡ 0 → (0x11A8 ≤ b) × (b ≤ 0x11C2)
    → TrailingComposes (a + (b - 0x11A7)) a b
composes_trailing a b first whole second = record {
  i = (a - 0xAC00) / 28 / 21;
  j = (a - 0xAC00) / 28 % 21;
  t = b - 0x11A7;
  leading = omega arith;
  vowel = omega arith;
  some = omega arith;
  trailing = omega arith;
  first = omega arith;
  syllable = omega arith;
  second = omega arith;
}

not_leading : (s a b : ℕ) → ((a < 0x1100) ⊎ (0x1112 < a)) ⊎ ((b < 0x1161) ⊎ (0x1175 < b)) → LeadingComposes s a b → ⊥
not_leading s a b (inl (inl h)) p = omega arith
not_leading s a b (inl (inr h)) p = omega arith
not_leading s a b (inr (inl h)) p = omega arith
not_leading s a b (inr (inr h)) p = omega arith

abbrev NotTrailing : ℕ → ℕ → Type 0
NotTrailing a b =
    ((a < 0xAC00) ⊎ (0xD7A3 < a)) ⊎ (((a - 0xAC00) % 28 ≡ 0 → ⊥) ⊎ ((b < 0x11A8) ⊎ (0x11C2 < b)))

not_trailing : (s a b : ℕ) → NotTrailing a b → TrailingComposes s a b → ⊥
not_trailing s a b (inl (inl h)) p = omega arith
not_trailing s a b (inl (inr h)) p = omega arith
not_trailing s a b (inr (inl h)) p = let e : (a - 0xAC00) % 28 ≡ 0 = omega arith in h e
not_trailing s a b (inr (inr (inl h))) p = omega arith
not_trailing s a b (inr (inr (inr h))) p = omega arith

no_pair : (s a b : ℕ) → ((a < 0x1100) ⊎ (0x1112 < a)) ⊎ ((b < 0x1161) ⊎ (0x1175 < b)) → NotTrailing a b
    → HangulComposes s a b → ⊥
no_pair s a b first second (inl p) = not_leading s a b first p
no_pair s a b first second (inr p) = not_trailing s a b second p

not_both : (p q : Bool) (P Q : Type 0) → (p ≡ false → P) → (q ≡ false → Q) → (p && q) ≡ false → P ⊎ Q
not_both p q P Q f g e = elim (and_cases p q e) [ inl h ↦ inl (f h) | inr h ↦ inr (g h) ]

pub composed_is : (a b : ℕ) (other r : Option ℕ) → ((s : ℕ) → HangulComposes s a b → r ≡ Some s)
    → (((s : ℕ) → ¬ HangulComposes s a b) → r ≡ other) → r ≡ option_or (hangul_syllable a b) other
unfolding hangul_syllable
composed_is a b other r hangul table =
    let P : Option ℕ → Type 0 = λ p. r ≡ option_or p other in
    let l = is_in_range 0x1100 0x1112 a in
    let v = is_in_range 0x1161 0x1175 b in
    let lv = is_in_range 0xAC00 0xD7A3 a in
    let whole = eqb ((a - 0xAC00) % 28) 0 in
    let t = is_in_range 0x11A8 0x11C2 b in
    cond_both (l && v) _ _ P
    (λ yes. let both = and_parts l v yes in
    hangul _ (inl (composes_leading a b (within 0x1100 0x1112 a both.0) (within 0x1161 0x1175 b both.1))))
    (λ no. cond_both (lv && (whole && t)) _ _ P
    (λ yes.
    let both = and_parts lv (whole && t) yes in
    let rest = and_parts whole t both.1 in
    hangul _ (inr (composes_trailing a b (within 0xAC00 0xD7A3 a both.0) (eqb-true ((a - 0xAC00) % 28) 0 rest.0)
    (within 0x11A8 0x11C2 b rest.1))))
    (λ neither. table (λ s. no_pair s a b
    (not_both l v _ _ (outside 0x1100 0x1112 a) (outside 0x1161 0x1175 b) no)
    (not_both lv (whole && t) _ _ (outside 0xAC00 0xD7A3 a)
    (not_both whole t _ _ (eqb-false ((a - 0xAC00) % 28) 0) (outside 0x11A8 0x11C2 b)) neither))))

-- ---- what is a character

pub is_character-in : (c : ℕ) → InScalarRange c → is_character c ≡ true
unfolding is_character
is_character-in c (inl low) = or_left _ _ (lt-ltb c 0xD800 low)
is_character-in c (inr high) = or_right _ _ (and_from _ _ (le-leb _ _ high.0) (le-leb _ _ high.1))

pub is_character-out : (c : ℕ) → OutOfScalarRange c → is_character c ≡ false
unfolding is_character
is_character-out c (inl surrogate) =
    or_from _ _ (le-ltb c 0xD800 surrogate.0) (and_left _ _ (lt-leb 0xE000 c (omega arith)))
is_character-out c (inr past) =
    or_from _ _ (le-ltb c 0xD800 (omega arith)) (and_right _ _ (lt-leb c 0x10_FFFF (omega arith)))

pub parts_of-out : (rows : List (ℕ × ℕ × Option ℕ)) (c : ℕ) → OutOfScalarRange c → parts_of rows c ≡ None
unfolding parts_of
parts_of-out rows c out = cond-false _ _ _ (is_character-out c out)

pub parts_of-in : (rows : List (ℕ × ℕ × Option ℕ)) (c : ℕ) → InScalarRange c
    → parts_of rows c ≡ option_or (hangul_parts c) (decomposition_of c rows)
unfolding parts_of
parts_of-in rows c is = cond-true _ _ _ (is_character-in c is)

pub composed_of-out : (rows : List ((ℕ × ℕ) × ℕ)) (a b : ℕ) → OutOfScalarRange a ⊎ OutOfScalarRange b
    → composed_of rows a b ≡ None
unfolding composed_of
composed_of-out rows a b (inl out) = cond-false _ _ _ (and_left _ _ (is_character-out a out))
composed_of-out rows a b (inr out) = cond-false _ _ _ (and_right _ _ (is_character-out b out))

pub composed_of-in : (rows : List ((ℕ × ℕ) × ℕ)) (a b : ℕ) → InScalarRange a → InScalarRange b
    → composed_of rows a b ≡ option_or (hangul_syllable a b) (composition_of a b rows)
unfolding composed_of
composed_of-in rows a b one two = cond-true _ _ _ (and_from _ _ (is_character-in a one) (is_character-in b two))

pub class_of-out : (rows : List (ℕ × ℕ)) (c : ℕ) → OutOfScalarRange c → class_of rows c ≡ 0
unfolding class_of
class_of-out rows c out = cond-false _ _ _ (is_character-out c out)

pub class_of-in : (rows : List (ℕ × ℕ)) (c : ℕ) → InScalarRange c → class_of rows c ≡ modified_combining_class c rows
unfolding class_of
class_of-in rows c is = cond-true _ _ _ (is_character-in c is)

pub composed_of-made : (rows : List ((ℕ × ℕ) × ℕ)) (first second a b : ℕ) (r : Option ℕ) → InScalarRange first
    → InScalarRange second → a ≡ first → b ≡ second → r ≡ option_or (hangul_syllable a b) (composition_of a b rows)
    → r ≡ composed_of rows first second
composed_of-made rows first second a b r one two a_is b_is made =
    made ∙ ap (λ n. option_or (hangul_syllable n b) (composition_of n b rows)) a_is
    ∙ ap (λ n. option_or (hangul_syllable first n) (composition_of first n rows)) b_is
    ∙ sym (composed_of-in rows first second one two)
