-- A context by coverages does not fit where the glyph that it asks for after the cursor does not stand there.
use Rattle.std.proofs.Common.{◌≡◌, ℕ, zero, suc, ◌+◌, ◌*◌, ◌<◌, Bool, true, false, List, [], ◌∷◌, drop, Option, Some, None, refl, arith, ap, subst, sym, ◌∙◌, inl, inr, option_map, slice_get, unwrap_or}
use Rattle.std.proofs.lemmas.Bool.{cases_Bool}
use Rattle.font_tables.specs.Bytes.{number_16}
use Rattle.font_tables.specs.declared.coverage.Coverage.{Coverage}
use Rattle.ot_contexts.specs.Context.{IsMissed}
use Rattle.ot_lookups.specs.NextAsked.{IsNextAt, lookahead_number, backtrack_number, input_number}
use Rattle.ot_contexts.specs.Pattern.{Pattern, chained_covered_of, chained_covered_pattern, covered_by, covered_pattern, pattern_fits, plain_covered_of, plain_covered_pattern, rule_fits}
use Rattle.ot_layout.specs.declared.search.ApplyContext.{ApplyContext}
use Rattle.ot_lookups.specs.declared.subtable.NextAsked.{NextAsked}
use Rattle.ot_layout.specs.declared.matcher.Matcher.TheVariants.{Covered}
use Rattle.ot_contexts.proofs.PatternLemmas.{pattern_fits-no_lookahead, pattern_fits-no_next}

-- the second glyph of the input
missed_input : (s : ApplyContext) (p : Pattern) (next : NextAsked) → next.is_input ≡ true → 0 < p.input_count
    → p.input 0 ≡ Some (Covered next.coverage) → IsMissed next s → pattern_fits s p ≡ false
missed_input s p next input some asks missed =
    let there = rw input at missed in
    pattern_fits-no_next s p some (rw asks there)

-- the first glyph after an input of one
missed_lookahead : (s : ApplyContext) (p : Pattern) (next : NextAsked) → next.is_input ≡ false → p.input_count ≡ 0 → 0 < p.lookahead_count
    → p.lookahead 0 ≡ Some (Covered next.coverage) → IsMissed next s → pattern_fits s p ≡ false
missed_lookahead s p next backtrack one some asks missed =
    let there = rw backtrack at missed in
    pattern_fits-no_lookahead s p one some (rw asks there)

slice_get-head : (cs : List Coverage) (n : ℕ) → slice_get (drop n cs) 0 ≡ slice_get cs n
slice_get-head [] zero = refl
slice_get-head [] (suc n) = refl
slice_get-head (c ∷ cs) zero = refl
slice_get-head (c ∷ cs) (suc n) = slice_get-head cs n

slice_get-dropped : (cs : List Coverage) (first n : ℕ) → slice_get (drop n (drop first cs)) 0 ≡ slice_get cs (first + n)
slice_get-dropped cs zero n = slice_get-head cs n ∙ ap (slice_get cs) (omega arith)
slice_get-dropped [] (suc first) zero = refl
slice_get-dropped [] (suc first) (suc n) = refl
slice_get-dropped (c ∷ cs) (suc first) n =
    let e : suc first + n ≡ suc (first + n) = omega arith in
    slice_get-dropped cs first n ∙ sym (ap (slice_get (c ∷ cs)) e)

covered_by-dropped : (cs : List Coverage) (first n : ℕ) (c : Coverage) → slice_get cs (first + n) ≡ Some c
    → covered_by (drop n (drop first cs)) 0 ≡ Some (Covered c)
covered_by-dropped cs first n c is = ap (option_map Covered) (slice_get-dropped cs first n ∙ is)

-- a context that is not chained
plain_missed : (s : ApplyContext) (cs : List Coverage) (first : ℕ) (table : List ℕ) (next : NextAsked) (o r : Option ℕ)
    → number_16 table 2 ≡ o → number_16 table 4 ≡ r → IsNextAt cs first false table next → IsMissed next s
    → rule_fits s (plain_covered_pattern (drop first cs) table) ≡ false
plain_missed s cs first table next None r e f is missed = rw e refl
plain_missed s cs first table next (Some n) None e f is missed = rw e (rw f refl)
plain_missed s cs first table next (Some n) (Some r) e f is missed =
    rw e (rw f (elim (cases_Bool next.is_input) [
      | inl input ↦
          let two : 1 < unwrap_or (number_16 table 2) 0 = is.two input in
          let more = rw e at two in
          missed_input s (plain_covered_of (drop first cs) table n r) next input (omega (arith, more))
          (covered_by-dropped cs first 1 next.coverage (is.second input)) missed
      | inr backtrack ↦ let some = is.some backtrack in absurd (omega (arith, some))
    ]))

-- one that is
chained_missed : (s : ApplyContext) (cs : List Coverage) (first : ℕ) (table : List ℕ) (next : NextAsked) (b i a r : ℕ)
    → backtrack_number true table ≡ b → input_number true table ≡ i → lookahead_number true table ≡ a
    → IsNextAt cs first true table next → IsMissed next s
    → pattern_fits s (chained_covered_of (drop first cs) table b i a r) ≡ false
chained_missed s cs first table next b i a r e f g is missed =
    elim (cases_Bool next.is_input) [
      | inl input ↦
          let more = subst (λ n. 1 < n) f (is.two input) in
          let at = subst (λ n. slice_get cs (first + (n + 1)) ≡ Some next.coverage) e (is.second input) in
          missed_input s (chained_covered_of (drop first cs) table b i a r) next input (omega (arith, more))
          (covered_by-dropped cs first (b + 1) next.coverage at) missed
      | inr backtrack ↦
          let less = subst (λ n. n < 2) f (is.few backtrack) in
          let some = subst (λ n. 0 < n) g (is.some backtrack) in
          let half = subst (λ n. slice_get cs (first + (n + input_number true table)) ≡ Some next.coverage) e (is.lookahead backtrack) in
          let at = subst (λ n. slice_get cs (first + (b + n)) ≡ Some next.coverage) f half in
          missed_lookahead s (chained_covered_of (drop first cs) table b i a r) next backtrack (omega (arith, less)) some
          (covered_by-dropped cs first (b + i) next.coverage at) missed
    ]

chained_missed_by : (s : ApplyContext) (cs : List Coverage) (first : ℕ) (table : List ℕ) (next : NextAsked) (b i a r : Option ℕ)
    → number_16 table 2 ≡ b → number_16 table (4 + 2 * unwrap_or b 0) ≡ i
    → number_16 table (4 + 2 * unwrap_or b 0 + 2 + 2 * unwrap_or i 0) ≡ a
    → number_16 table (4 + 2 * unwrap_or b 0 + 2 + 2 * unwrap_or i 0 + 2 + 2 * unwrap_or a 0) ≡ r
    → IsNextAt cs first true table next → IsMissed next s
    → rule_fits s (chained_covered_pattern (drop first cs) table) ≡ false
chained_missed_by s cs first table next None i a r e f g h is missed = rw e refl
chained_missed_by s cs first table next (Some b) None a r e f g h is missed = rw e (rw f refl)
chained_missed_by s cs first table next (Some b) (Some i) None r e f g h is missed = rw e (rw f (rw g refl))
chained_missed_by s cs first table next (Some b) (Some i) (Some a) None e f g h is missed = rw e (rw f (rw g (rw h refl)))
chained_missed_by s cs first table next (Some b) (Some i) (Some a) (Some r) e f g h is missed =
    let bn : backtrack_number true table ≡ b = rw e refl in
    let im : input_number true table ≡ i = rw e (rw f refl) in
    let an : lookahead_number true table ≡ a = rw e (rw f (rw g refl)) in
    rw e (rw f (rw g (rw h (chained_missed s cs first table next b i a r bn im an is missed))))

-- the rule does not fit
pub rule_fits-missed : (s : ApplyContext) (cs : List Coverage) (first : ℕ) (chained : Bool) (table : List ℕ) (next : NextAsked)
    → IsNextAt cs first chained table next → IsMissed next s
    → rule_fits s (covered_pattern chained (drop first cs) table) ≡ false
rule_fits-missed s cs first true table next is missed =
    chained_missed_by s cs first table next _ _ _ _ refl refl refl refl is missed
rule_fits-missed s cs first false table next is missed = plain_missed s cs first table next _ _ refl refl is missed
