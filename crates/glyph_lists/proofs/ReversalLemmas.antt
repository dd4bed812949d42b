-- Lists that are put into reverse order from both ends on.
use Rattle.std.proofs.Common.{◌⊎◌, inl, inr, ◌≡◌, ℕ, ◌+◌, ◌-◌, ◌*◌, ◌<◌, ◌≤◌, ◌/◌, List, length, get_or, set, reverse}
use Rattle.std.proofs.Common.{refl, sym, ap, ◌∙◌, arith}
use Rattle.std.proofs.lemmas.Bool.{cases_lt}
use Rattle.std.proofs.lemmas.List.{get_or-set_same, get_or-set_other, get_or-reverse, length-set, length-reverse}
use Rattle.std.proofs.lemmas.List.{same_lists}

-- ys is xs after the first i items have changed places with the last i
pub record IsTurned {X : Type 0} (xs ys : List X) (i : ℕ) : Type 0 where
  pub long : length ys ≡ length xs
  pub before : (k : ℕ) (d : X) → k < i → k < length xs → get_or ys k d ≡ get_or xs (length xs - 1 - k) d
  pub after : (k : ℕ) (d : X) → length xs ≤ k + i → k < length xs → get_or ys k d ≡ get_or xs (length xs - 1 - k) d
  pub between : (k : ℕ) (d : X) → i ≤ k → k + i < length xs → get_or ys k d ≡ get_or xs k d

pub turned_none : {X : Type 0} (xs : List X) → IsTurned xs xs 0
turned_none xs = record {
  long = refl;
  before = λ k d low h. absurd (omega arith);
  after = λ k d high h. absurd (omega arith);
  between = λ k d low high. refl;
}

-- two more items change places
pub turned_more : {X : Type 0} (xs ys : List X) (i : ℕ) (x y : X) → 2 * i + 2 ≤ length xs
    → ((d : X) → x ≡ get_or ys i d) → ((d : X) → y ≡ get_or ys (length xs - 1 - i) d)
    → IsTurned xs ys i → IsTurned xs (set (set ys i y) (length xs - 1 - i) x) (i + 1)
turned_more xs ys i x y room first last t =
    let n = length xs in
    let j = n - 1 - i in
    let zs = set ys i y in
    let long : length zs ≡ n = length-set ys i y ∙ t.long in
    let at_first = λ (k : ℕ) (d : _) (e : k ≡ i).
    ap (λ p. get_or (set zs j x) p d) e ∙ get_or-set_other zs j i x d (omega arith)
    ∙ get_or-set_same ys i y d (omega (arith, t.long))
    ∙ last d ∙ t.between j d (omega arith) (omega arith) ∙ ap (λ p. get_or xs (n - 1 - p) d) (sym e) in
    let mirrored : (k : ℕ) → k ≡ j → i ≡ n - 1 - k = λ k e. omega arith in
    let at_last = λ (k : ℕ) (d : _) (e : k ≡ j).
    ap (λ p. get_or (set zs j x) p d) e ∙ get_or-set_same zs j x d (omega (arith, long)) ∙ first d
    ∙ t.between i d (omega arith) (omega arith)
    ∙ ap (λ p. get_or xs p d) (mirrored k e) in
    let other = λ (k : ℕ) (d : _) (low : k < i ⊎ i < k) (high : k < j ⊎ j < k).
    get_or-set_other zs j k x d (omega arith) ∙ get_or-set_other ys i k y d (omega arith) in record {
      long = length-set zs j x ∙ long;
      before = λ k d low h. elim (cases_lt k i) [
        | inl lt ↦ other k d (inl lt) (inl (omega arith)) ∙ t.before k d lt h
        | inr ge ↦ at_first k d (omega arith)
      ];
      after = λ k d high h. elim (cases_lt j k) [
        | inl lt ↦ other k d (inr (omega arith)) (inr lt) ∙ t.after k d (omega arith) h
        | inr ge ↦ at_last k d (omega arith)
      ];
      between =
          λ k d low high. other k d (inr (omega arith)) (inl (omega arith)) ∙ t.between k d (omega arith) (omega arith);
    }

-- at the middle all of it is in reverse order
pub turned_all : {X : Type 0} (xs ys : List X) (i : ℕ) → i ≡ length xs / 2 → IsTurned xs ys i → ys ≡ reverse xs
turned_all xs ys i e t =
    let n = length xs in
    same_lists ys (reverse xs) (t.long ∙ sym (length-reverse xs))
    (λ k d h.
    let in_xs : k < n = omega (arith, t.long) in
    elim (cases_lt k i) [
      | inl lt ↦ t.before k d lt in_xs
      | inr ge ↦ elim (cases_lt (k + i) n) [
        | inl lt ↦ let middle : k ≡ n - 1 - k = omega arith in t.between k d ge lt ∙ ap (λ p. get_or xs p d) middle
        | inr past ↦ t.after k d past in_xs
      ]
    ] ∙ sym (get_or-reverse xs k d in_xs))

pub ruleset turns = (turned_none, turned_more, turned_all)
