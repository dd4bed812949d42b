-- How far a rule looks that does not fit, by the step that leads nowhere.
use Rattle.std.proofs.Common.{◌≡◌, ℕ, zero, suc, ◌<◌, nat_lt, true, false, min, max, Option, Some, None, refl, arith, sym, ap, ◌∙◌, inl, inr}
use Rattle.std.proofs.lemmas.Bool.{cases_lt}
use Rattle.ot_layout.specs.ApplyContext.{input_iterator}
use Rattle.ot_contexts.specs.Reach.{extended}
use Rattle.ot_layout.specs.declared.matcher.Matcher.{Matcher}
use Rattle.ot_layout.specs.declared.search.ApplyContext.{ApplyContext}
use Rattle.ot_layout.specs.declared.search.Reach.{Reach}
use Rattle.ot_contexts.specs.Match.{backtrack_start, joins, last_place, lookahead_end, match_end, next_place, steps_from}
use Rattle.ot_contexts.specs.Pattern.{Pattern}
use Rattle.ot_contexts.specs.Reach.{end_index, end_position, joined_end, looked_from, match_start, missed_range, next_end, range_to}
use Rattle.ot_contexts.proofs.AroundLemmas.{steps_from-missing}
use Rattle.ot_contexts.proofs.MatchLemmas.{last_place-apart, last_place-missing}

-- steps look as far as the one that leads nowhere
pub looked_from-missing : (step : Option Matcher → ℕ → Option ℕ) (looks : Option Matcher → ℕ → ℕ) (asked : ℕ → Option Matcher) (place n k p : ℕ)
    → steps_from step asked place k ≡ Some p → k < n → step (asked k) p ≡ None
    → looked_from step looks asked place n ≡ looks (asked k) p
unfolding looked_from
looked_from-missing step looks asked place zero k p so_far less missing = absurd (omega (arith, less))
looked_from-missing step looks asked place (suc n) k p so_far less missing =
    elim (cases_lt k n) [
      | inl below ↦
          rw (steps_from-missing step asked place n k p so_far below missing)
          (looked_from-missing step looks asked place n k p so_far below missing)
      | inr most ↦
          let here : n ≡ k = omega (arith, less, most) in
          rw here (rw so_far refl)
    ]

-- a glyph of a match that is not there
pub joined_end-missing : (s : ApplyContext) (asked : ℕ → Option Matcher) (n k p : ℕ) → last_place s asked k ≡ Some p → k < n
    → next_place (input_iterator s) (asked k) s.input.now p ≡ None
    → joined_end s asked n ≡ next_end (input_iterator s) (asked k) s.input.now p
unfolding joined_end
joined_end-missing s asked zero k p so_far less missing = absurd (omega (arith, less))
joined_end-missing s asked (suc n) k p so_far less missing =
    elim (cases_lt k n) [
      | inl below ↦
          rw (last_place-missing s asked n k p so_far below missing)
          (joined_end-missing s asked n k p so_far below missing)
      | inr most ↦
          let here : n ≡ k = omega (arith, less, most) in
          rw here (rw so_far (rw missing refl))
    ]

-- one that may not join
pub joined_end-apart : (s : ApplyContext) (asked : ℕ → Option Matcher) (n k p q : ℕ) → last_place s asked k ≡ Some p → k < n
    → next_place (input_iterator s) (asked k) s.input.now p ≡ Some q → joins s q ≡ false → joined_end s asked n ≡ 0
unfolding joined_end
joined_end-apart s asked zero k p q so_far less next apart = absurd (omega (arith, less))
joined_end-apart s asked (suc n) k p q so_far less next apart =
    elim (cases_lt k n) [
      | inl below ↦
          rw (last_place-apart s asked n k p q so_far below next apart)
          (joined_end-apart s asked n k p q so_far below next apart)
      | inr most ↦
          let here : n ≡ k = omega (arith, less, most) in
          rw here (rw so_far (rw next refl))
    ]

pub end_position-within : (s : ApplyContext) (asked : ℕ → Option Matcher) (n e : ℕ) → n < 64 → joined_end s asked n ≡ e
    → end_position s asked n ≡ e
end_position-within s asked n e few is =
    let within : nat_lt n 64 ≡ true = grind (arith, few) in
    rw (within, is) refl

-- a rule whose input does not stand there
pub missed_range-input : (s : ApplyContext) (p : Pattern) → match_end s p.input p.input_count ≡ None
    → missed_range s p ≡ Some (range_to s (end_position s p.input p.input_count))
unfolding missed_range
missed_range-input s p none = rw none refl

-- whose lookahead does not
pub missed_range-lookahead : (s : ApplyContext) (p : Pattern) (end : ℕ) → match_end s p.input p.input_count ≡ Some end
    → lookahead_end s p.lookahead end p.lookahead_count ≡ None
    → missed_range s p ≡ Some (range_to s (end_index s p.lookahead end p.lookahead_count))
unfolding missed_range
missed_range-lookahead s p end input none = rw input (rw none refl)

-- or whose backtrack does not
pub missed_range-backtrack : (s : ApplyContext) (p : Pattern) (end to : ℕ) → match_end s p.input p.input_count ≡ Some end
    → lookahead_end s p.lookahead end p.lookahead_count ≡ Some to → backtrack_start s p.backtrack p.backtrack_count ≡ None
    → missed_range s p ≡ Some (record { from = match_start s p.backtrack p.backtrack_count; to = to })
unfolding missed_range
missed_range-backtrack s p end to input lookahead none = rw input (rw lookahead (rw none refl))

-- and one that fits
pub missed_range-none : (s : ApplyContext) (p : Pattern) (end to from : ℕ) → match_end s p.input p.input_count ≡ Some end
    → lookahead_end s p.lookahead end p.lookahead_count ≡ Some to → backtrack_start s p.backtrack p.backtrack_count ≡ Some from
    → missed_range s p ≡ None
unfolding missed_range
missed_range-none s p end to from input lookahead backtrack = rw input (rw lookahead (rw backtrack refl))

-- what was looked at takes in such a range
pub extended_by : (new mid old : Reach) (range : Option Reach) (from to start end : ℕ)
    → new ≡ record { from = min mid.from from; to = max mid.to to } → mid ≡ old → from ≡ start → to ≡ end
    → range ≡ Some (record { from = start; to = end }) → new ≡ extended old range
extended_by new mid old range from to start end is same begins ends has =
    is ∙ ap (λ (n : ℕ). extended mid (Some (record { from = n; to = to }))) begins
    ∙ ap (λ (n : ℕ). extended mid (Some (record { from = start; to = n }))) ends
    ∙ ap (λ (r : Reach). extended r (Some (record { from = start; to = end }))) same ∙ ap (extended old) (sym has)
