-- Whether a rule fits, by its parts.
use Rattle.std.proofs.Common.{◌≡◌, ◌==◌, ℕ, ◌<◌, ◌&&◌, Bool, true, false, Option, Some, None, refl}
use Rattle.ot_contexts.specs.Match.{lookahead_end, backtrack_start, match_end, next_place}
use Rattle.ot_contexts.specs.Pattern.{Pattern, pattern_fits}
use Rattle.ot_layout.specs.declared.search.ApplyContext.{ApplyContext}
use Rattle.ot_layout.specs.declared.matcher.Matcher.{Matcher}
use Rattle.ot_contexts.proofs.AroundLemmas.{option_map-none, steps_from-none, steps_from-missing}
use Rattle.ot_contexts.proofs.MatchLemmas.{last_place-missing, last_place_none, match_end-never}
use Rattle.ot_layout.specs.ApplyContext.{context_iterator, input_iterator}

-- the input does not stand there
pub pattern_fits-input : (s : ApplyContext) (p : Pattern) → match_end s p.input p.input_count ≡ None → pattern_fits s p ≡ false
unfolding pattern_fits
pattern_fits-input s p none = rw none refl

-- something else stands after it
pub pattern_fits-lookahead : (s : ApplyContext) (p : Pattern) (end : ℕ) → match_end s p.input p.input_count ≡ Some end
    → lookahead_end s p.lookahead end p.lookahead_count ≡ None → pattern_fits s p ≡ false
unfolding pattern_fits
pattern_fits-lookahead s p end input none = rw input (rw none refl)

and_false : (b : Bool) → (b && false) ≡ false
and_false true = refl
and_false false = refl

-- or before it
pub pattern_fits-backtrack : (s : ApplyContext) (p : Pattern) → backtrack_start s p.backtrack p.backtrack_count ≡ None
    → pattern_fits s p ≡ false
unfolding pattern_fits
pattern_fits-backtrack s p none = rw none (and_false _)

-- all stands there
pub pattern_fits-here : (s : ApplyContext) (p : Pattern) (end to from : ℕ) → match_end s p.input p.input_count ≡ Some end
    → lookahead_end s p.lookahead end p.lookahead_count ≡ Some to → backtrack_start s p.backtrack p.backtrack_count ≡ Some from
    → pattern_fits s p ≡ true
unfolding pattern_fits
pattern_fits-here s p end to from input lookahead backtrack = rw input (rw lookahead (rw backtrack refl))

pub ruleset fitting = (pattern_fits-input, pattern_fits-backtrack)

-- the next glyph of the input is not there
pub pattern_fits-no_next : (s : ApplyContext) (p : Pattern) → 0 < p.input_count
    → next_place (input_iterator s) (p.input 0) s.input.now 0 ≡ None → pattern_fits s p ≡ false
pattern_fits-no_next s p some missing =
    pattern_fits-input s p
    (match_end-never s p.input p.input_count
    (last_place-missing s p.input p.input_count 0 0 (last_place_none s p.input) some missing))

match_end-one : (s : ApplyContext) (asked : ℕ → Option Matcher) (n : ℕ) → n ≡ 0 → match_end s asked n ≡ Some 1
match_end-one s asked n one = rw one (rw (last_place_none s asked) refl)

-- nor is the first one after an input of one
pub pattern_fits-no_lookahead : (s : ApplyContext) (p : Pattern) → p.input_count ≡ 0 → 0 < p.lookahead_count
    → next_place (context_iterator s true) (p.lookahead 0) s.input.now 0 ≡ None → pattern_fits s p ≡ false
pattern_fits-no_lookahead s p one some missing =
    let step = λ (matcher : Option Matcher) (place : ℕ). next_place (context_iterator s (1 == 1)) matcher s.input.now place in
    let none : lookahead_end s p.lookahead 1 p.lookahead_count ≡ None =
    option_map-none _ (steps_from-missing step p.lookahead 0 p.lookahead_count 0 0 (steps_from-none step p.lookahead 0) some missing) in
    pattern_fits-lookahead s p 1 (match_end-one s p.input p.input_count one) none
