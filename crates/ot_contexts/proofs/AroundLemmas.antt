-- Steps from glyph to glyph around a match.
use Rattle.std.proofs.Common.{◌≡◌, ℕ, zero, suc, ◌+◌, ◌<◌, Option, Some, None, refl, arith, option_map, inl, inr}
use Rattle.std.proofs.lemmas.Bool.{cases_lt}
use Rattle.ot_contexts.specs.Match.{steps_from}
use Rattle.ot_layout.specs.declared.matcher.Matcher.{Matcher}

-- no step
pub steps_from-none : (step : Option Matcher → ℕ → Option ℕ) (asked : ℕ → Option Matcher) (place : ℕ)
    → steps_from step asked place 0 ≡ Some place
unfolding steps_from
steps_from-none step asked place = refl

-- one more step
pub steps_from-more : (step : Option Matcher → ℕ → Option ℕ) (asked : ℕ → Option Matcher) (place k p q : ℕ)
    → steps_from step asked place k ≡ Some p → step (asked k) p ≡ Some q → steps_from step asked place (k + 1) ≡ Some q
unfolding steps_from
steps_from-more step asked place k p q so_far next =
    let e : k + 1 ≡ suc k = omega arith in
    rw e (rw so_far next)

-- no more steps where fewer lead nowhere
steps_from-never : (step : Option Matcher → ℕ → Option ℕ) (asked : ℕ → Option Matcher) (place n k : ℕ)
    → steps_from step asked place k ≡ None → k < n + 1 → steps_from step asked place n ≡ None
unfolding steps_from
steps_from-never step asked place zero zero never less = never
steps_from-never step asked place zero (suc k) never less = absurd (omega (arith, less))
steps_from-never step asked place (suc n) k never less =
    elim (cases_lt k (suc n)) [
      | inl below ↦ rw (steps_from-never step asked place n k never (omega (arith, below))) refl
      | inr most ↦
          let here : k ≡ suc n = omega arith in
          rw here at never
    ]

-- a step that leads nowhere
pub steps_from-missing : (step : Option Matcher → ℕ → Option ℕ) (asked : ℕ → Option Matcher) (place n k p : ℕ)
    → steps_from step asked place k ≡ Some p → k < n → step (asked k) p ≡ None → steps_from step asked place n ≡ None
unfolding steps_from
steps_from-missing step asked place n k p so_far less missing =
    let here : steps_from step asked place (suc k) ≡ None = rw so_far missing in
    steps_from-never step asked place n (suc k) here (omega (arith, less))

pub option_map-none : (place : Option ℕ) → place ≡ None → option_map (λ place. place + 1) place ≡ None
option_map-none place none = rw none refl
