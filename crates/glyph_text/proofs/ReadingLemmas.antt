-- A text is read one way: where texts of numbers begin alike, and what follows cannot go on with them, the
-- numbers are equal and what follows is equal.
use Rattle.std.proofs.Common.{◌≡◌, ℕ, suc, ◌^◌, ◌<◌, ◌≤◌, Bool, true, false, cond, List, [], ◌∷◌, ◌++◌, length, drop}
use Rattle.std.proofs.Common.{get_or, refl, ap, sym, subst, ◌∙◌, arith}
use Rattle.std.specs.Prelude.{⊤, ℤ, pos, negsuc, nat_abs, nat_le, ◌+◌, ◌%◌, ◌&&◌, ◌≢◌}
use Rattle.std.specs.Fmt.{decimal, signed_decimal}
use Rattle.std.proofs.lemmas.Bool.{false≢true}
use Rattle.std.proofs.lemmas.Fmt.{decimal_by_steps, decimal_injective, decimal_nonempty}

-- ---- what cannot continue a decimal

abbrev pub is_digit : ℕ → Bool
is_digit c = nat_le 48 c && nat_le c 57

-- all of these are digits
abbrev pub AreDigits : List ℕ → Type 0
AreDigits [] = ⊤
AreDigits (c ∷ cs) = (is_digit c ≡ true) × AreDigits cs

-- these do not begin with a digit
abbrev pub Stops : List ℕ → Type 0
Stops [] = ⊤
Stops (c ∷ cs) = is_digit c ≡ false

differs : {X : Type 0} (b : Bool) → b ≡ true → b ≡ false → X
differs b t f = absurd (false≢true (sym f ∙ t))

tails : {c d : ℕ} {cs ds : List ℕ} → c ∷ cs ≡ d ∷ ds → cs ≡ ds
tails e = ap (drop 1) e

heads : {c d : ℕ} {cs ds : List ℕ} → c ∷ cs ≡ d ∷ ds → c ≡ d
heads e = ap (λ l. get_or l 0 0) e

-- digits with what stops them are read one way
pub digits_read : (ds es r s : List ℕ) → AreDigits ds → AreDigits es → Stops r → Stops s → ds ++ r ≡ es ++ s
    → (ds ≡ es) × (r ≡ s)
digits_read [] [] r s p q h k e = (refl, e)
digits_read [] (c ∷ es) r s p q h k e = differs (is_digit c) q.0 (subst Stops e h)
digits_read (c ∷ ds) [] r s p q h k e = differs (is_digit c) p.0 (subst Stops (sym e) k)
digits_read (c ∷ ds) (d ∷ es) r s p q h k e =
    let rest = digits_read ds es r s p.1 q.1 h k (tails e) in
    (ap (λ x. x ∷ ds) (heads e) ∙ ap (λ l. d ∷ l) rest.0, rest.1)

digits_push : (ds : List ℕ) (c : ℕ) → AreDigits ds → is_digit c ≡ true → AreDigits (ds ++ c ∷ [])
digits_push [] c p q = (q, tt)
digits_push (d ∷ ds) c p q = (p.0, digits_push ds c p.1 q)

is_digit-last : (d : ℕ) → d < 10 → is_digit (48 + d) ≡ true
is_digit-last d h = grind arith

pub AreDigits-decimal : (n : ℕ) → n < 2 ^ 64 → AreDigits (decimal n)
AreDigits-decimal n h =
    decimal_by_steps (λ n ds. AreDigits ds) (λ n small. (is_digit-last n small, tt))
    (λ n ds large p. digits_push ds (48 + n % 10) p (is_digit-last (n % 10) (omega arith))) n h

-- a decimal with what cannot continue it is read one way
pub decimal_read : (m n : ℕ) (r s : List ℕ) → m < 2 ^ 64 → n < 2 ^ 64 → Stops r → Stops s
    → decimal m ++ r ≡ decimal n ++ s → (m ≡ n) × (r ≡ s)
decimal_read m n r s f g h k e =
    let both = digits_read (decimal m) (decimal n) r s (AreDigits-decimal m f) (AreDigits-decimal n g) h k e in
    (decimal_injective m n f g both.0, both.1)

-- digits are not taken for a sign
not_a_sign : {X : Type 0} (ds r s : List ℕ) → AreDigits ds → 0 < length ds → ds ++ r ≡ 45 ∷ s → X
not_a_sign [] r s p h e = absurd (omega arith)
not_a_sign (d ∷ ds) r s p h e = differs (is_digit d) p.0 (ap is_digit (heads e))

-- the number is at most 2^31 in size
abbrev pub IsWord : ℤ → Type 0
IsWord z = nat_abs z ≤ 2 ^ 31

pub signed_read : (y z : ℤ) (r s : List ℕ) → IsWord y → IsWord z → Stops r → Stops s
    → signed_decimal y ++ r ≡ signed_decimal z ++ s → (y ≡ z) × (r ≡ s)
signed_read (pos m) (pos n) r s f g h k e =
    let both = decimal_read m n r s (omega (arith, f)) (omega (arith, g)) h k e in
    (ap pos both.0, both.1)
signed_read (pos m) (negsuc n) r s f g h k e =
    not_a_sign (decimal m) r (decimal (suc n) ++ s) (AreDigits-decimal m (omega (arith, f)))
    (decimal_nonempty m (omega (arith, f))) e
signed_read (negsuc m) (pos n) r s f g h k e =
    not_a_sign (decimal n) s (decimal (suc m) ++ r) (AreDigits-decimal n (omega (arith, g)))
    (decimal_nonempty n (omega (arith, g))) (sym e)
signed_read (negsuc m) (negsuc n) r s f g h k e =
    let both = decimal_read (suc m) (suc n) r s (omega (arith, f)) (omega (arith, g)) h k (tails e) in
    (ap negsuc (omega (arith, both.0)), both.1)

-- ---- parts that may be absent

-- these do not begin with this byte
abbrev pub NotFirst : ℕ → List ℕ → Type 0
NotFirst b [] = ⊤
NotFirst b (c ∷ cs) = c ≢ b

-- a part that is absent at one value, and else begins with a byte that what follows cannot begin with
optional_by_cases : {X : Type 0} (none x y : X) (b : ℕ) (t u r s : List ℕ) (p q : Bool)
    → (p ≡ true → x ≡ none) → (q ≡ true → y ≡ none) → NotFirst b r → NotFirst b s
    → (t ++ r ≡ u ++ s → (x ≡ y) × (r ≡ s))
    → cond p [] (b ∷ t) ++ r ≡ cond q [] (b ∷ u) ++ s → (x ≡ y) × (r ≡ s)
optional_by_cases none x y b t u r s true true f g h k read e = (f refl ∙ sym (g refl), e)
optional_by_cases none x y b t u r s true false f g h k read e = absurd (subst (NotFirst b) e h refl)
optional_by_cases none x y b t u r s false true f g h k read e = absurd (subst (NotFirst b) (sym e) k refl)
optional_by_cases none x y b t u r s false false f g h k read e = read (tails e)

pub optional_read : {X : Type 0} (absent : X → Bool) (text : X → List ℕ) (none x y : X) (b : ℕ) (r s : List ℕ)
    → ((z : X) → absent z ≡ true → z ≡ none) → NotFirst b r → NotFirst b s
    → (text x ++ r ≡ text y ++ s → (x ≡ y) × (r ≡ s))
    → cond (absent x) [] (b ∷ text x) ++ r ≡ cond (absent y) [] (b ∷ text y) ++ s → (x ≡ y) × (r ≡ s)
optional_read absent text none x y b r s f h k read e =
    optional_by_cases none x y b (text x) (text y) r s (absent x) (absent y) (f x) (f y) h k read e
