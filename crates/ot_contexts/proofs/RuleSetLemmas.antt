-- The first rule of a set that fits, and why a rule that is not tried does not fit.
use Rattle.std.proofs.Common.{◌≡◌, ℕ, zero, suc, ◌+◌, ◌-◌, ◌*◌, ◌<◌, ◌≤◌, ◌&&◌, ◌||◌, Bool, true, false, not, List, drop, Option, Some, None, refl, arith, subst, sym, ◌∙◌, nat_lt, inl, inr}
use Rattle.std.proofs.Common.{if◌then◌else◌, option_map, is_some}
use Rattle.std.specs.Prelude.{IfSome}
use Rattle.std.proofs.lemmas.Bool.{cases_lt, cases_Bool}
use Rattle.font_tables.specs.Bytes.{number_16, table_at_16}
use Rattle.font_tables.specs.declared.class_definition.ClassDefinition.{ClassDefinition}
use Rattle.font_tables.specs.declared.coverage.Coverage.{Coverage}
use Rattle.rb_glyph.specs.declared.info.hb_glyph_info_t.{hb_glyph_info_t}
use Rattle.ot_contexts.specs.Match.{joins, next_place}
use Rattle.ot_contexts.specs.Pattern.{IsFitBy, IsFitOf, Pattern, fitting, pattern_fits, plain_of, plain_pattern, rule_fits, rule_pattern}
use Rattle.ot_contexts.specs.Rule.{matcher_by}
use Rattle.ot_contexts.specs.RuleSet.{asks_nothing, counts, first_rule, fits_at, fits_found, fits_next, fits_second, is_asked, looks_first, next_counted, passes_joiners, rule_at, rule_count, taken}
use Rattle.ot_lookups.specs.LookupProps.{glyph_at}
use Rattle.ot_layout.specs.SkippingIterator.{is_shown, next_found, place_of}
use Rattle.ot_contexts.specs.declared.context.Fit.{Fit}
use Rattle.ot_contexts.specs.declared.rule.MatchFunction.{MatchFunction}
use Rattle.ot_contexts.specs.declared.rule.MatchFunction.TheVariants.{Glyphs, Classes, Coverages}
use Rattle.ot_contexts.specs.declared.rule.MatchFunctions.{MatchFunctions}
use Rattle.ot_layout.specs.declared.search.ApplyContext.{ApplyContext}
use Rattle.ot_layout.specs.declared.skipping_iterator.Found.{Found}
use Rattle.ot_layout.specs.declared.skipping_iterator.Found.TheVariants.{At, Other, End}
use Rattle.ot_layout.specs.declared.skipping_iterator.SkippingIterator.{SkippingIterator}
use Rattle.ot_layout.specs.declared.matcher.Matcher.{Matcher}
use Rattle.ot_layout.specs.declared.matcher.Matcher.TheVariants.{Any, Class, Covered, Glyph}
use Rattle.ot_contexts.proofs.MatchLemmas.{last_place-apart, last_place-missing, last_place-more, last_place_none, match_end-never}
use Rattle.ot_contexts.proofs.NeighbourLemmas.{place_of-absent, place_of-counted_other, place_of-counted_same}
use Rattle.ot_contexts.proofs.PatternLemmas.{pattern_fits-here, pattern_fits-input, pattern_fits-no_next}
use Rattle.ot_layout.specs.ApplyContext.{input_iterator}

-- no rule is the first of none
pub first_rule-nowhere : (s : ApplyContext) (chained : Bool) (m : MatchFunctions) (set : List ℕ) → first_rule s chained m set 0 ≡ None
unfolding first_rule
first_rule-nowhere s chained m set = refl

-- one more rule that is not taken
pub first_rule-later : (s : ApplyContext) (chained : Bool) (m : MatchFunctions) (set : List ℕ) (k : ℕ) → first_rule s chained m set k ≡ None
    → rule_at s chained m set k ≡ None → first_rule s chained m set (k + 1) ≡ None
unfolding first_rule
first_rule-later s chained m set k so_far misses =
    let e : k + 1 ≡ suc k = omega arith in
    rw e (rw so_far misses)

-- the first that is
pub first_rule-here : (s : ApplyContext) (chained : Bool) (m : MatchFunctions) (set : List ℕ) (n k : ℕ) (p : Pattern)
    → first_rule s chained m set k ≡ None → k < n → rule_at s chained m set k ≡ Some p
    → first_rule s chained m set n ≡ Some p
unfolding first_rule
first_rule-here s chained m set zero k p so_far less fits = absurd (omega (arith, less))
first_rule-here s chained m set (suc n) k p so_far less fits =
    elim (cases_lt k n) [
      | inl below ↦ rw (first_rule-here s chained m set n k p so_far below fits) refl
      | inr most ↦
          let here : n ≡ k = omega (arith, less, most) in
          rw here (rw so_far fits)
    ]

pub ruleset first_steps = (first_rule-nowhere, first_rule-later)

-- a rule fits the same however far others looked
fit_beyond : (s : ApplyContext) (p : Pattern) (places : List ℕ) (fit : Fit) (beyond : ℕ) → IsFitOf s p places fit
    → IsFitOf s p places (record fit { beyond = beyond })
fit_beyond s p places fit beyond is = record {
  input = is.input;
  input_places = is.input_places;
  lookahead = is.lookahead;
  backtrack = is.backtrack;
  record_count = is.record_count;
  records = is.records;
}

-- so does the first rule of a set
pub first_fits : (s : ApplyContext) (chained : Bool) (m : MatchFunctions) (set : List ℕ) (n k : ℕ) (o : Option Pattern) (places : List ℕ) (fit : Fit) (beyond : ℕ)
    → first_rule s chained m set k ≡ None → k < n → rule_at s chained m set k ≡ o → IsFitBy s o places fit
    → IsFitBy s (first_rule s chained m set n) places (record fit { beyond = beyond })
first_fits s chained m set n k None places fit beyond so_far less is fits = cc
first_fits s chained m set n k (Some p) places fit beyond so_far less is fits =
    rw (first_rule-here s chained m set n k p so_far less is) (fit_beyond s p places fit beyond fits)

pub first_is_some : (s : ApplyContext) (chained : Bool) (m : MatchFunctions) (set : List ℕ) (n k : ℕ) (o : Option Pattern) (places : List ℕ) (fit : Fit)
    → first_rule s chained m set k ≡ None → k < n → rule_at s chained m set k ≡ o → IsFitBy s o places fit
    → is_some (first_rule s chained m set n) ≡ true
first_is_some s chained m set n k None places fit so_far less is fits = cc
first_is_some s chained m set n k (Some p) places fit so_far less is fits =
    rw (first_rule-here s chained m set n k p so_far less is) refl

-- a rule that does not fit
fitting-none : (s : ApplyContext) (p : Pattern) → pattern_fits s p ≡ false → fitting s (Some p) ≡ None
fitting-none s p misses = rw misses refl

-- no table, or one that is cut short
pub rule_at-none : (s : ApplyContext) (chained : Bool) (m : MatchFunctions) (set : List ℕ) (k : ℕ) → table_at_16 set (2 + 2 * k) ≡ None
    → rule_at s chained m set k ≡ None
rule_at-none s chained m set k none = rw none refl

pub rule_at-cut : (s : ApplyContext) (chained : Bool) (m : MatchFunctions) (set t : List ℕ) (k : ℕ) → table_at_16 set (2 + 2 * k) ≡ Some t
    → rule_pattern chained m t ≡ None → rule_at s chained m set k ≡ None
rule_at-cut s chained m set t k there none = rw there (rw none refl)

pub ruleset at_steps = (rule_at-none, rule_at-cut)

-- the second glyph of the input is not there
no_second_by : (s : ApplyContext) (p : Pattern) (place : ℕ) (o : Option ℕ) → next_place (input_iterator s) (p.input 0) s.input.now 0 ≡ o
    → 1 < p.input_count → ((q : ℕ) → o ≡ Some q → q ≡ place)
    → next_place (input_iterator s) (p.input 1) s.input.now place ≡ None → pattern_fits s p ≡ false
no_second_by s p place None first more same missing = pattern_fits-no_next s p (omega (arith, more)) first
no_second_by s p place (Some q) first more same missing =
    let here = same q refl in
    let start = last_place_none s p.input in
    elim (cases_Bool (joins s q)) [
      | inl joined ↦
          let one = last_place-more s p.input 0 0 q start first joined in
          let there : next_place (input_iterator s) (p.input 1) s.input.now q ≡ None =
          subst (λ n. next_place (input_iterator s) (p.input 1) s.input.now n ≡ None) (sym here) missing in
          pattern_fits-input s p
          (match_end-never s p.input p.input_count
          (last_place-missing s p.input p.input_count 1 q one more there))
      | inr apart ↦
          pattern_fits-input s p
          (match_end-never s p.input p.input_count
          (last_place-apart s p.input p.input_count 0 0 q start (omega (arith, more)) first apart))
    ]

-- a rule never asks only whether a glyph is passed over
glyph_shown : (o : Option ℕ) (x : Matcher) → option_map Glyph o ≡ Some x → is_shown x ≡ false
glyph_shown None x asks = cc
glyph_shown (Some n) x asks =
    let e : Glyph n ≡ x = cc in
    subst (λ y. is_shown y ≡ false) e refl

class_shown : (c : ClassDefinition) (o : Option ℕ) (x : Matcher) → option_map (Class c) o ≡ Some x → is_shown x ≡ false
class_shown c None x asks = cc
class_shown c (Some n) x asks =
    let e : Class c n ≡ x = cc in
    subst (λ y. is_shown y ≡ false) e refl

covered_shown : (o : Option Coverage) (x : Matcher) → option_map Covered o ≡ Some x → is_shown x ≡ false
covered_shown None x asks = cc
covered_shown (Some c) x asks =
    let e : Covered c ≡ x = cc in
    subst (λ y. is_shown y ≡ false) e refl

pub is_shown-wanted : (m : MatchFunction) (numbers : List ℕ) (k : ℕ) (x : Matcher) → matcher_by m numbers k ≡ Some x → is_shown x ≡ false
is_shown-wanted Glyphs numbers k x asks = glyph_shown _ x asks
is_shown-wanted (Classes c) numbers k x asks = class_shown c _ x asks
is_shown-wanted (Coverages cs) numbers k x asks = covered_shown _ x asks

-- nothing that is asked for stands where another glyph counts
pub next_place-other : (w : SkippingIterator) (gs : List hb_glyph_info_t) (i p : ℕ) (o : Option Matcher) → next_found w Any gs i ≡ At p
    → counts w (glyph_at gs p) ≡ true → ((x : Matcher) → o ≡ Some x → is_shown x ≡ false)
    → is_asked o (glyph_at gs p).glyph_id ≡ false → next_place w o gs i ≡ None
next_place-other w gs i p None found here asks other = refl
next_place-other w gs i p (Some x) found here asks other = place_of-counted_other w x gs i p found here (asks x refl) other

next_place-same : (w : SkippingIterator) (gs : List hb_glyph_info_t) (i p q : ℕ) (o : Option Matcher) → next_found w Any gs i ≡ At p
    → counts w (glyph_at gs p) ≡ true → next_place w o gs i ≡ Some q → q ≡ p
next_place-same w gs i p q None found here some = cc
next_place-same w gs i p q (Some x) found here some = place_of-counted_same w x gs i p q found here some

pub next_place-absent : (w : SkippingIterator) (gs : List hb_glyph_info_t) (i : ℕ) (o : Option Matcher)
    → place_of (next_found w Any gs i) ≡ None → next_place w o gs i ≡ None
next_place-absent w gs i None none = refl
next_place-absent w gs i (Some x) none = place_of-absent w x gs i none

-- a rule without context asks for no more than its input
fits_at-inside : (p : Pattern) (n g : ℕ) → n < p.input_count → fits_at p n g ≡ is_asked (p.input n) g
fits_at-inside p n g less =
    let e : nat_lt n p.input_count ≡ true = grind (arith, less) in
    rw e refl

fits_at-backtrack : (p : Pattern) (n g : ℕ) → p.input_count ≤ n → p.lookahead_count ≡ 0 → fits_at p n g ≡ true
fits_at-backtrack p n g beyond none =
    let e : nat_lt n p.input_count ≡ false = grind (arith, beyond) in
    let f : nat_lt (n - p.input_count) 0 ≡ false = grind arith in
    rw (e, none, f) refl

absurd_Bool : (b : Bool) → b ≡ true → b ≡ false → ⊥
absurd_Bool b so not_so = cc

record IsPlain (p : Pattern) : Type 0 where
  none : p.lookahead_count ≡ 0
  asks : (k : ℕ) → (x : Matcher) → p.input k ≡ Some x → is_shown x ≡ false

-- where a rule without context fits, the next glyph is what it asks for
first_fits_at : (s : ApplyContext) (p : Pattern) (place : ℕ) → IsPlain p → next_found (input_iterator s) Any s.input.now 0 ≡ At place
    → counts (input_iterator s) (glyph_at s.input.now place) ≡ true → pattern_fits s p ≡ true
    → fits_at p 0 (glyph_at s.input.now place).glyph_id ≡ true
first_fits_at s p place plain found here fits =
    elim (cases_lt 0 p.input_count) [
      | inl some ↦
          elim (cases_Bool (is_asked (p.input 0) (glyph_at s.input.now place).glyph_id)) [
            | inl asked ↦ fits_at-inside p 0 _ some ∙ asked
            | inr other ↦
                absurd (absurd_Bool (pattern_fits s p) fits
                (pattern_fits-no_next s p some
                (next_place-other (input_iterator s) s.input.now 0 place (p.input 0) found here (plain.asks 0) other)))
          ]
      | inr one ↦ fits_at-backtrack p 0 _ one plain.none
    ]

-- and so is the second one
second_fits_at : (s : ApplyContext) (p : Pattern) (place second : ℕ) → IsPlain p → next_found (input_iterator s) Any s.input.now 0 ≡ At place
    → counts (input_iterator s) (glyph_at s.input.now place) ≡ true → next_found (input_iterator s) Any s.input.now place ≡ At second
    → counts (input_iterator s) (glyph_at s.input.now second) ≡ true → pattern_fits s p ≡ true
    → fits_at p 1 (glyph_at s.input.now second).glyph_id ≡ true
second_fits_at s p place second plain found here next there fits =
    elim (cases_lt 1 p.input_count) [
      | inl some ↦
          elim (cases_Bool (is_asked (p.input 1) (glyph_at s.input.now second).glyph_id)) [
            | inl asked ↦ fits_at-inside p 1 _ some ∙ asked
            | inr other ↦
                absurd (absurd_Bool (pattern_fits s p) fits
                (no_second_by s p place _ refl some
                (λ q is. next_place-same (input_iterator s) s.input.now 0 place q (p.input 0) found here is)
                (next_place-other (input_iterator s) s.input.now place second (p.input 1) next there (plain.asks 1) other)))
          ]
      | inr one ↦ fits_at-backtrack p 1 _ one plain.none
    ]

second_by : (s : ApplyContext) (p : Pattern) (place : ℕ) (f : Found) → IsPlain p → next_found (input_iterator s) Any s.input.now 0 ≡ At place
    → counts (input_iterator s) (glyph_at s.input.now place) ≡ true → next_found (input_iterator s) Any s.input.now place ≡ f
    → pattern_fits s p ≡ true → fits_second p (next_counted (input_iterator s) s.input.now place) ≡ true
second_by s p place (At second) plain found here next fits =
    elim (cases_Bool (counts (input_iterator s) (glyph_at s.input.now second))) [
      | inl there ↦ rw (next, there) (second_fits_at s p place second plain found here next there fits)
      | inr passed ↦ rw (next, passed) refl
    ]
second_by s p place (Other second) plain found here next fits = rw next refl
second_by s p place End plain found here next fits = rw next refl

absent_by : (s : ApplyContext) (p : Pattern) → IsPlain p → place_of (next_found (input_iterator s) Any s.input.now 0) ≡ None
    → pattern_fits s p ≡ true → asks_nothing p ≡ true
absent_by s p plain none fits =
    elim (cases_lt 0 p.input_count) [
      | inl some ↦
          absurd (absurd_Bool (pattern_fits s p) fits
          (pattern_fits-no_next s p some (next_place-absent (input_iterator s) s.input.now 0 (p.input 0) none)))
      | inr one ↦
          let e : p.input_count ≡ 0 = omega (arith, one) in
          rw (e, plain.none) refl
    ]

next_by : (s : ApplyContext) (p : Pattern) (f : Found) → IsPlain p → next_found (input_iterator s) Any s.input.now 0 ≡ f
    → pattern_fits s p ≡ true → fits_found (input_iterator s) s.input.now p f ≡ true
next_by s p (At place) plain found fits =
    elim (cases_Bool (counts (input_iterator s) (glyph_at s.input.now place))) [
      | inl here ↦
          rw (here, first_fits_at s p place plain found here fits, second_by s p place _ plain found here refl fits) refl
      | inr passed ↦ rw passed refl
    ]
next_by s p (Other place) plain found fits = absent_by s p plain (rw found refl) fits
next_by s p End plain found fits = absent_by s p plain (rw found refl) fits

-- so the next two glyphs are, as far as they count
fits_next-plain : (s : ApplyContext) (p : Pattern) → IsPlain p → pattern_fits s p ≡ true → fits_next s p ≡ true
unfolding fits_next
fits_next-plain s p plain fits = next_by s p _ plain refl fits

plain_by : (m : MatchFunction) (t : List ℕ) (p : Pattern) (n r : Option ℕ) → number_16 t 0 ≡ n → number_16 t 2 ≡ r
    → plain_pattern m t ≡ Some p → IsPlain p
plain_by m t p None r count records is =
    let none : plain_pattern m t ≡ None = rw count refl in
    cc
plain_by m t p (Some n) None count records is =
    let none : plain_pattern m t ≡ None = rw count (rw records refl) in
    cc
plain_by m t p (Some n) (Some r) count records is =
    let some : plain_pattern m t ≡ Some (plain_of m t n r) = rw count (rw records refl) in
    let e : plain_of m t n r ≡ p = cc in
    subst IsPlain e (record { none = refl; asks = λ k x asks. is_shown-wanted m (drop 4 t) k x asks })

-- a rule without context that asks for something else does not fit
misses_plain : (s : ApplyContext) (m : MatchFunction) (t : List ℕ) (p : Pattern) → plain_pattern m t ≡ Some p → fits_next s p ≡ false
    → pattern_fits s p ≡ false
misses_plain s m t p is other =
    elim (cases_Bool (pattern_fits s p)) [
      | inl fits ↦ absurd (absurd_Bool _ (fits_next-plain s p (plain_by m t p _ _ refl refl is) fits) other)
      | inr misses ↦ misses
    ]

not_tried : (b j n : Bool) → (not (b && (false || j)) || n) ≡ false → (if true && (b && (false || j)) then n else true) ≡ false
not_tried true true n e = e
not_tried true false n e = cc
not_tried false j n e = cc

other_next : (b j n : Bool) → (not (b && (true || j)) || n) ≡ false → n ≡ false
other_next true j n e = e
other_next false j n e = cc

is_tried_by : (b j n : Bool) → (not (b && (false || j)) || n) ≡ true → (if true && (b && (false || j)) then n else true) ≡ true
is_tried_by true true n e = e
is_tried_by true false n e = refl
is_tried_by false j n e = refl

-- one that is not tried is not taken
taken-passed : (s : ApplyContext) (chained : Bool) (count : ℕ) (m : MatchFunctions) (t : List ℕ) (p : Pattern) → rule_pattern chained m t ≡ Some p
    → (not (looks_first s chained count) || fits_next s p) ≡ false
    → taken s chained count (Some p) ≡ None
taken-passed s true count m t p is other = rw (not_tried (nat_lt 4 count) (passes_joiners s) (fits_next s p) other) refl
taken-passed s false count m t p is other =
    fitting-none s p (misses_plain s m.input t p is (other_next (nat_lt 4 count) (passes_joiners s) (fits_next s p) other))

-- one that is tried is taken where it fits
taken-tried : (s : ApplyContext) (chained : Bool) (count : ℕ) (p : Pattern)
    → (not (looks_first s chained count) || fits_next s p) ≡ true
    → taken s chained count (Some p) ≡ fitting s (Some p)
taken-tried s true count p next = rw (is_tried_by (nat_lt 4 count) (passes_joiners s) (fits_next s p) next) refl
taken-tried s false count p next = refl

rule_at-there : (s : ApplyContext) (chained : Bool) (m : MatchFunctions) (set t : List ℕ) (k : ℕ) (p : Pattern)
    → table_at_16 set (2 + 2 * k) ≡ Some t → rule_pattern chained m t ≡ Some p
    → rule_at s chained m set k ≡ taken s chained (rule_count set) (Some p)
rule_at-there s chained m set t k p there is = rw there (rw is refl)

pub rule_at-passed : (s : ApplyContext) (chained : Bool) (m : MatchFunctions) (set t : List ℕ) (k : ℕ) (p : Pattern)
    → table_at_16 set (2 + 2 * k) ≡ Some t → rule_pattern chained m t ≡ Some p
    → (not (looks_first s chained (rule_count set)) || fits_next s p) ≡ false
    → rule_at s chained m set k ≡ None
rule_at-passed s chained m set t k p there is other =
    rule_at-there s chained m set t k p there is ∙ taken-passed s chained (rule_count set) m t p is other

rule_at-told_by : (s : ApplyContext) (chained : Bool) (m : MatchFunctions) (set t : List ℕ) (k : ℕ) (o : Option Pattern)
    → table_at_16 set (2 + 2 * k) ≡ Some t → rule_pattern chained m t ≡ o
    → ((p : Pattern) → rule_pattern chained m t ≡ Some p
    → (not (looks_first s chained (rule_count set)) || fits_next s p) ≡ false)
    → rule_at s chained m set k ≡ None
rule_at-told_by s chained m set t k None there is other = rule_at-cut s chained m set t k there is
rule_at-told_by s chained m set t k (Some p) there is other = rule_at-passed s chained m set t k p there is (other p is)

-- so no rule is taken that is told apart by the next glyphs, if it is one
pub rule_at-told : (s : ApplyContext) (chained : Bool) (m : MatchFunctions) (set t : List ℕ) (k : ℕ)
    → table_at_16 set (2 + 2 * k) ≡ Some t
    → ((p : Pattern) → rule_pattern chained m t ≡ Some p
    → (not (looks_first s chained (rule_count set)) || fits_next s p) ≡ false)
    → rule_at s chained m set k ≡ None
rule_at-told s chained m set t k there other = rule_at-told_by s chained m set t k _ there refl other

if-none : (b : Bool) {x : Option Pattern} → x ≡ None → (if b then x else None) ≡ None
if-none true none = none
if-none false none = refl

taken-missed : (s : ApplyContext) (chained : Bool) (count : ℕ) (o : Option Pattern) → rule_fits s o ≡ false → taken s chained count o ≡ None
taken-missed s chained count None misses = refl
taken-missed s chained count (Some p) misses = if-none _ (fitting-none s p misses)

-- nor one that does not fit
pub rule_at-missed : (s : ApplyContext) (chained : Bool) (m : MatchFunctions) (set t : List ℕ) (k : ℕ)
    → table_at_16 set (2 + 2 * k) ≡ Some t → rule_fits s (rule_pattern chained m t) ≡ false
    → rule_at s chained m set k ≡ None
rule_at-missed s chained m set t k there misses = rw there (taken-missed s chained (rule_count set) (rule_pattern chained m t) misses)

rule_at-tried : (s : ApplyContext) (chained : Bool) (m : MatchFunctions) (set t : List ℕ) (k : ℕ) (p : Pattern)
    → table_at_16 set (2 + 2 * k) ≡ Some t → rule_pattern chained m t ≡ Some p
    → (not (looks_first s chained (rule_count set)) || fits_next s p) ≡ true
    → rule_at s chained m set k ≡ fitting s (Some p)
rule_at-tried s chained m set t k p there is next =
    rule_at-there s chained m set t k p there is ∙ taken-tried s chained (rule_count set) p next

-- a rule that fits is one that fits
pub fitting-here : (s : ApplyContext) (p : Pattern) (places : List ℕ) (fit : Fit) → IsFitOf s p places fit
    → IsFitBy s (fitting s (Some p)) places fit
fitting-here s p places fit is = rw (pattern_fits-here s p fit.end fit.to fit.from is.input is.lookahead is.backtrack) is

rule_at-fits : (s : ApplyContext) (chained : Bool) (m : MatchFunctions) (set t : List ℕ) (k : ℕ) (p : Pattern) (places : List ℕ) (fit : Fit)
    → table_at_16 set (2 + 2 * k) ≡ Some t → rule_pattern chained m t ≡ Some p
    → (not (looks_first s chained (rule_count set)) || fits_next s p) ≡ true
    → IsFitOf s p places fit → IsFitBy s (rule_at s chained m set k) places fit
rule_at-fits s chained m set t k p places fit there is next fits =
    rw (rule_at-tried s chained m set t k p there is next) (fitting-here s p places fit fits)

-- what is said of the rule of a number, where one fits
pub rules_fit : (s : ApplyContext) (chained : Bool) (m : MatchFunctions) (set t : List ℕ) (k : ℕ) (p : Pattern) (places : List ℕ) (fit : Option Fit)
    → table_at_16 set (2 + 2 * k) ≡ Some t → rule_pattern chained m t ≡ Some p
    → (not (looks_first s chained (rule_count set)) || fits_next s p) ≡ true
    → IfSome fit (IsFitOf s p places) → IfSome fit (IsFitBy s (rule_at s chained m set k) places)
rules_fit s chained m set t k p places None there is next fits = tt
rules_fit s chained m set t k p places (Some fit) there is next fits =
    rule_at-fits s chained m set t k p places fit there is next fits
