-- Sets of conditions one of which does not hold.
use Rattle.std.proofs.Common.{◌≡◌, ℕ, ℤ, List, zero, suc, ◌<◌, Bool, false, refl, arith, subst, inl, inr, ◌&&◌}
use Rattle.std.proofs.lemmas.Bool.{cases_lt}
use Rattle.std.proofs.lemmas.Grind.{common_steps}
use Rattle.font_variations.specs.FeatureVariations.{first_hold, holds, condition_of}

-- an `and` whose second part is false
and_second : (a b : Bool) → b ≡ false → (a && b) ≡ false
and_second a b e = grind (arith, common_steps)

-- once one of the first conditions does not hold, they do not all hold
pub first_hold_fails : (set : List ℕ) (coordinates : List ℤ) (n i : ℕ) → i < n
    → holds (condition_of set i) coordinates ≡ false → first_hold set coordinates n ≡ false
first_hold_fails set coordinates zero i less fails = absurd (omega arith)
first_hold_fails set coordinates (suc n) i less fails =
    elim (cases_lt i n) [
      | inl below ↦ rw (first_hold_fails set coordinates n i below fails) refl
      | inr most ↦
          let here : i ≡ n = omega arith in
          and_second (first_hold set coordinates n) _ (subst (λ k. holds (condition_of set k) coordinates ≡ false) here fails)
    ]
