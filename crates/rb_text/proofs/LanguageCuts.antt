-- A walk from the front finds the first singleton that leaves a byte.
use Rattle.std.proofs.Common.{◌≡◌, ℕ, ◌<◌, ◌≤◌, ◌+◌, zero, suc, List, [], ◌∷◌, ◌++◌, Bool, true, false, length}
use Rattle.std.proofs.Common.{get_or, take, drop, arith, refl, sym, ◌∙◌, ap}
use Rattle.std.specs.Prelude.{◌&&◌, ◌==◌}
use Rattle.std.proofs.lemmas.Bool.Decides.{nat_tests}
use Rattle.rb_text.specs.LanguageCut.{until_singleton}

abbrev pub hyphens_at : List ℕ → ℕ → ℕ → Bool
hyphens_at xs i j = (get_or xs i 0 == 45) && (get_or xs j 0 == 45)

append-until_next : (xs : List ℕ) (i : ℕ) → suc (suc i) < length xs → hyphens_at xs i (suc (suc i)) ≡ false
    → take (suc i) xs ++ until_singleton (drop (suc i) xs) ≡ take i xs ++ until_singleton (drop i xs)
append-until_next [] i h e = absurd (omega arith)
append-until_next (a ∷ []) zero h e = absurd (omega arith)
append-until_next (a ∷ (b ∷ [])) zero h e = absurd (omega arith)
append-until_next (a ∷ (b ∷ (c ∷ xs))) zero h e = rw e refl
append-until_next (a ∷ xs) (suc i) h e = ap (λ l. a ∷ l) (append-until_next xs i (omega arith) e)

append-until_found : (xs : List ℕ) (i : ℕ) → suc (suc i) < length xs → hyphens_at xs i (suc (suc i)) ≡ true
    → take i xs ++ until_singleton (drop i xs) ≡ take i xs
append-until_found [] i h e = absurd (omega arith)
append-until_found (a ∷ []) zero h e = absurd (omega arith)
append-until_found (a ∷ (b ∷ [])) zero h e = absurd (omega arith)
append-until_found (a ∷ (b ∷ (c ∷ xs))) zero h e = rw e refl
append-until_found (a ∷ xs) (suc i) h e = ap (λ l. a ∷ l) (append-until_found xs i (omega arith) e)

until_singleton-short : (xs : List ℕ) → length xs ≤ 2 → until_singleton xs ≡ xs
until_singleton-short [] h = refl
until_singleton-short (a ∷ []) h = refl
until_singleton-short (a ∷ (b ∷ [])) h = refl
until_singleton-short (a ∷ (b ∷ (c ∷ xs))) h = absurd (omega arith)

append-until_end : (xs : List ℕ) (i : ℕ) → length xs ≤ i + 2 → take i xs ++ until_singleton (drop i xs) ≡ xs
append-until_end xs zero h = until_singleton-short xs (omega arith)
append-until_end [] (suc i) h = refl
append-until_end (a ∷ xs) (suc i) h = ap (λ l. a ∷ l) (append-until_end xs i (omega arith))

add-two : (i : ℕ) → i + 2 ≡ suc (suc i)
add-two i = omega arith

add-one : (i : ℕ) → i + 1 ≡ suc i
add-one i = omega arith

is_not : (a b : ℕ) → ¬ (a ≡ b) → (a == b) ≡ false
is_not a b h = grind (arith, nat_tests)

second_fails : (p : Bool) → (p && false) ≡ false
second_fails true = refl
second_fails false = refl

-- a singleton behind place i ends the walk
pub append-walk_ends : (xs : List ℕ) (i : ℕ) → i + 2 < length xs → get_or xs i 0 ≡ 45 → get_or xs (i + 2) 0 ≡ 45
    → take i xs ++ until_singleton (drop i xs) ≡ take i xs
append-walk_ends xs i h first second = append-until_found xs i (omega arith) (rw (first, rw (add-two i) at second) refl)

-- with no `-` at place i, or none behind the byte after it, the walk goes on
pub append-walk_passes : (xs : List ℕ) (i : ℕ) → i + 2 < length xs → ¬ (get_or xs i 0 ≡ 45)
    → take (i + 1) xs ++ until_singleton (drop (i + 1) xs) ≡ take i xs ++ until_singleton (drop i xs)
append-walk_passes xs i h first = rw (add-one i) (append-until_next xs i (omega arith) (rw (is_not _ _ first) refl))

pub append-walk_passes_second : (xs : List ℕ) (i : ℕ) → i + 2 < length xs → ¬ (get_or xs (i + 2) 0 ≡ 45)
    → take (i + 1) xs ++ until_singleton (drop (i + 1) xs) ≡ take i xs ++ until_singleton (drop i xs)
append-walk_passes_second xs i h second =
    rw (add-one i) (append-until_next xs i (omega arith) (rw (is_not _ _ (rw (add-two i) at second)) (second_fails _)))

take-whole : (xs : List ℕ) → take (length xs) xs ≡ xs
take-whole [] = refl
take-whole (x ∷ xs) = ap (λ l. x ∷ l) (take-whole xs)

-- with fewer than three bytes left there is no singleton
pub append-walk_finds_none : (xs : List ℕ) (i : ℕ) → length xs ≤ i + 2
    → take i xs ++ until_singleton (drop i xs) ≡ take (length xs) xs
append-walk_finds_none xs i h = append-until_end xs i h ∙ sym (take-whole xs)
