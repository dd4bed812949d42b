-- Numbers that are read byte by byte, and characters that are written one by one.
use Rattle.std.proofs.Common.{ℕ, ◌≡◌, ◌+◌, List, [], ◌∷◌, ◌++◌, length, Option, None, Some}
use Rattle.std.proofs.Common.{option_map, option_and_then, option_to_list, refl, sym, ap, ◌∙◌, append_assoc, arith}
use Rattle.shape_options.specs.declared.code_points.Reading.{Reading}
use Rattle.shape_options.specs.declared.code_points.Reading.TheVariants.{Between}
use Rattle.shape_options.specs.CodePoints.{step, ended, numbers_from, numbers_in}

option_map-append : (xs ys : List ℕ) (o : Option (List ℕ))
    → option_map (λ ns. xs ++ ns) (option_map (λ ns. ys ++ ns) o) ≡ option_map (λ ns. (xs ++ ys) ++ ns) o
option_map-append xs ys None = refl
option_map-append xs ys (Some ns) = ap Some (sym (append_assoc xs ys ns))

-- what comes of a step
abbrev after_step : List ℕ → Option (Option ℕ × Reading) → Option (List ℕ)
after_step bytes s =
    option_and_then (λ s. option_map (λ numbers. option_to_list s.0 ++ numbers) (numbers_from s.1 bytes)) s

-- one byte more is read
option_map-one_step : (reading next : Reading) (b : ℕ) (bytes numbers : List ℕ) (number : Option ℕ)
    → step reading b ≡ Some (number, next)
    → option_map (λ ns. numbers ++ ns) (numbers_from reading (b ∷ bytes))
    ≡ option_map (λ ns. (numbers ++ option_to_list number) ++ ns) (numbers_from next bytes)
option_map-one_step reading next b bytes numbers number e =
    ap (λ s. option_map (λ ns. numbers ++ ns) (after_step bytes s)) e
    ∙ option_map-append numbers (option_to_list number) (numbers_from next bytes)

-- a byte that may not stand there
option_map-no_step : (reading : Reading) (b : ℕ) (bytes numbers : List ℕ) → step reading b ≡ None
    → option_map (λ ns. numbers ++ ns) (numbers_from reading (b ∷ bytes)) ≡ None
option_map-no_step reading b bytes numbers e = ap (λ s. option_map (λ ns. numbers ++ ns) (after_step bytes s)) e

-- nothing was read yet
nothing_read : (o : Option (List ℕ)) → o ≡ option_map (λ ns. [] ++ ns) o
nothing_read None = refl
nothing_read (Some ns) = refl

-- ---- the loop

pub numbers_in-begins : (text bytes numbers : List ℕ) → bytes ≡ text → numbers ≡ []
    → numbers_in text ≡ option_map (λ ns. numbers ++ ns) (numbers_from Between bytes)
numbers_in-begins text bytes numbers e n =
    nothing_read (numbers_in text)
    ∙ ap (λ l. option_map (λ ns. l ++ ns) (numbers_from Between text)) (sym n)
    ∙ ap (λ b. option_map (λ ns. numbers ++ ns) (numbers_from Between b)) (sym e)

pub numbers_in-refused : (text rest numbers : List ℕ) (reading : Reading) (b : ℕ) (others : List ℕ)
    → numbers_in text ≡ option_map (λ ns. numbers ++ ns) (numbers_from reading rest) → rest ≡ b ∷ others
    → step reading b ≡ None → numbers_in text ≡ None
numbers_in-refused text rest numbers reading b others so_far e s =
    so_far ∙ ap (λ r. option_map (λ ns. numbers ++ ns) (numbers_from reading r)) e
    ∙ option_map-no_step reading b others numbers s

pub numbers_in-goes_on : (text rest numbers more : List ℕ) (reading next : Reading) (b : ℕ) (others : List ℕ)
    (number : Option ℕ)
    → numbers_in text ≡ option_map (λ ns. numbers ++ ns) (numbers_from reading rest) → rest ≡ b ∷ others
    → step reading b ≡ Some (number, next) → more ≡ numbers ++ option_to_list number
    → numbers_in text ≡ option_map (λ ns. more ++ ns) (numbers_from next others)
numbers_in-goes_on text rest numbers more reading next b others number so_far e s m =
    so_far ∙ ap (λ r. option_map (λ ns. numbers ++ ns) (numbers_from reading r)) e
    ∙ option_map-one_step reading next b others numbers number s
    ∙ ap (λ l. option_map (λ ns. l ++ ns) (numbers_from next others)) (sym m)

pub numbers_in-ends : (text rest numbers more : List ℕ) (reading : Reading) (number : Option ℕ)
    → numbers_in text ≡ option_map (λ ns. numbers ++ ns) (numbers_from reading rest) → rest ≡ []
    → number ≡ ended reading → more ≡ numbers ++ option_to_list number → numbers_in text ≡ Some more
numbers_in-ends text rest numbers more reading number so_far e n m =
    so_far ∙ ap (λ r. option_map (λ ns. numbers ++ ns) (numbers_from reading r)) e
    ∙ ap (λ o. Some (numbers ++ option_to_list o)) (sym n) ∙ ap Some (sym m)

pub empty : (bytes : List ℕ) → length bytes ≡ 0 → bytes ≡ []
empty [] e = refl
empty (b ∷ bytes) e = absurd (omega (arith, e))
