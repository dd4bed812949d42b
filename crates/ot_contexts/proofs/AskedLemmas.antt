-- A rule that asks for another glyph than stands after the cursor is not taken.
use Rattle.std.proofs.Common.{◌≡◌, ◌≢◌, ℕ, ◌+◌, ◌-◌, ◌*◌, ◌<◌, ◌≤◌, ◌&&◌, Bool, true, false, not, List, drop, Option, Some, None, refl, arith, subst, sym, ◌∙◌, ap, nat_lt, inl, inr}
use Rattle.std.proofs.Common.{if◌then◌else◌, unwrap_or, option_map}
use Rattle.std.specs.Prelude.{IfSome, nat_eq}
use Rattle.std.proofs.lemmas.Bool.{cases_Bool}
use Rattle.std.proofs.lemmas.Grind.{common_steps}
use Rattle.font_tables.specs.Bytes.{number_16}
use Rattle.font_tables.proofs.ChunkLemmas.{number_16-drop}
use Rattle.ot_contexts.specs.Asked.{AreNumbersOf, Asks, AsksFor, IsApart, IsLookahead, IsBeside, IsInput, IsNumberOf, asked_around, asked_at, chained_asked, is_other, plain_asked}
use Rattle.ot_lookups.specs.LookupProps.{glyph_at}
use Rattle.ot_layout.specs.SkippingIterator.{next_found, skip_of, place_of}
use Rattle.rb_glyph.specs.declared.info.hb_glyph_info_t.{hb_glyph_info_t}
use Rattle.ot_contexts.specs.Pattern.{Pattern, chained_of, chained_pattern, pattern_fits, plain_of, plain_pattern, rule_fits, rule_pattern}
use Rattle.ot_contexts.specs.Rule.{matcher_by}
use Rattle.ot_contexts.specs.RuleSet.{fits_at}
use Rattle.ot_contexts.specs.declared.asked.Asked.{Asked}
use Rattle.ot_contexts.specs.declared.asked.Asked.TheVariants.{Input, Lookahead}
use Rattle.ot_contexts.specs.declared.neighbours.Neighbours.TheVariants.{Seen}
use Rattle.ot_contexts.specs.declared.neighbours.Next.{Next}
use Rattle.ot_contexts.specs.declared.rule.MatchFunction.{MatchFunction}
use Rattle.ot_contexts.specs.declared.rule.MatchFunctions.{MatchFunctions}
use Rattle.ot_layout.specs.declared.search.ApplyContext.{ApplyContext}
use Rattle.ot_contexts.specs.declared.told.Beside.{Beside}
use Rattle.ot_contexts.specs.declared.told.Numbers.{Numbers}
use Rattle.ot_layout.specs.declared.skipping_iterator.Found.TheVariants.{At}
use Rattle.ot_layout.specs.declared.skipping_iterator.Skip.TheVariants.{No}
use Rattle.ot_layout.specs.declared.skipping_iterator.SkippingIterator.{SkippingIterator}
use Rattle.ot_layout.specs.declared.matcher.Matcher.TheVariants.{Any}
use Rattle.ot_contexts.proofs.NeighbourLemmas.{counts-no}
use Rattle.ot_contexts.proofs.RuleSetLemmas.{is_shown-wanted, next_place-absent, next_place-other}
use Rattle.ot_contexts.proofs.PatternLemmas.{pattern_fits-no_lookahead, pattern_fits-no_next}

-- the number of a part whose numbers stand from a place on
asks_from : (m : MatchFunction) (t : List ℕ) (at count n a : ℕ) → n < count → number_16 t (at + 2 * n) ≡ Some a
    → AsksFor m (matcher_by m (drop at t)) count n a
asks_from m t at count n a less is =
    let same : at + n * 2 ≡ at + 2 * n = omega arith in
    record {
      numbers = drop at t;
      less = less;
      is = refl;
      has = number_16-drop at (n * 2) t ∙ ap (number_16 t) same ∙ is;
    }

asks_input : (m : MatchFunctions) (p : Pattern) (t : List ℕ) (at n : ℕ) (a : Asked) (o : Option ℕ) → n < p.input_count
    → p.input ≡ matcher_by m.input (drop at t) → number_16 t (at + 2 * n) ≡ o → option_map Input o ≡ Some a → Asks m p n a
asks_input m p t at n a None less input is some = cc
asks_input m p t at n a (Some number) less input is some =
    let e : Input number ≡ a = cc in
    subst (Asks m p n) e (subst (λ f. AsksFor m.input f p.input_count n number) (sym input)
    (asks_from m.input t at p.input_count n number less is))

asks_lookahead : (m : MatchFunctions) (p : Pattern) (t : List ℕ) (at n : ℕ) (a : Asked) (o : Option ℕ) → p.input_count ≤ n
    → n - p.input_count < p.lookahead_count → p.lookahead ≡ matcher_by m.lookahead (drop at t)
    → number_16 t (at + 2 * (n - p.input_count)) ≡ o → option_map Lookahead o ≡ Some a → Asks m p n a
asks_lookahead m p t at n a None backtrack less neighbours is some = cc
asks_lookahead m p t at n a (Some number) backtrack less neighbours is some =
    let e : Lookahead number ≡ a = cc in
    subst (Asks m p n) e (
      backtrack,
      subst (λ f. AsksFor m.lookahead f p.lookahead_count (n - p.input_count) number) (sym neighbours)
          (asks_from m.lookahead t at p.lookahead_count (n - p.input_count) number less is),
    )

if_none : (b : Bool) (x : Option Asked) (a : Asked) → (if b then x else None) ≡ Some a → (b ≡ true) × (x ≡ Some a)
if_none true x a is = (refl, is)
if_none false x a is = cc

-- a rule without context
asks_plain : (m : MatchFunctions) (t : List ℕ) (n : ℕ) (a : Asked) (p : Pattern) (c r : Option ℕ) → number_16 t 0 ≡ c → number_16 t 2 ≡ r
    → plain_asked t n ≡ Some a → plain_pattern m.input t ≡ Some p → Asks m p n a
asks_plain m t n a p None r ec er asked is =
    let none : plain_pattern m.input t ≡ None = rw ec refl in
    cc
asks_plain m t n a p (Some c) None ec er asked is =
    let none : plain_pattern m.input t ≡ None = rw ec (rw er refl) in
    cc
asks_plain m t n a p (Some c) (Some r) ec er asked is =
    let some : plain_pattern m.input t ≡ Some (plain_of m.input t c r) = rw ec (rw er refl) in
    let e : plain_of m.input t c r ≡ p = cc in
    let opened : plain_asked t n
    ≡ (if nat_lt n (c - 1) && nat_lt (c - 1) 64 then option_map Input (number_16 t (4 + 2 * n)) else None) = rw ec refl in
    let there = if_none (nat_lt n (c - 1) && nat_lt (c - 1) 64) (option_map Input (number_16 t (4 + 2 * n))) a (sym opened ∙ asked) in
    let within : (nat_lt n (c - 1) && nat_lt (c - 1) 64) ≡ true = there.0 in
    let less : n < c - 1 = grind (arith, common_steps, within) in
    subst (λ q. Asks m q n a) e (asks_input m (plain_of m.input t c r) t 4 n a _ less refl refl there.1)

-- a rule with context, what it asks for in its input
asks_around_input : (m : MatchFunctions) (t : List ℕ) (n : ℕ) (a : Asked) (b i h r : ℕ) → nat_lt n (i - 1) ≡ true
    → asked_around t b i n ≡ Some a → Asks m (chained_of m t b i h r) n a
asks_around_input m t n a b i h r within asked =
    let opened : asked_around t b i n
    ≡ (if nat_lt (i - 1) 64 then option_map Input (number_16 t (2 + 2 * b + 2 + 2 * n)) else None) = rw within refl in
    let there = if_none (nat_lt (i - 1) 64) (option_map Input (number_16 t (2 + 2 * b + 2 + 2 * n))) a (sym opened ∙ asked) in
    let less : n < i - 1 = grind (arith, common_steps, within) in
    asks_input m (chained_of m t b i h r) t (2 + 2 * b + 2) n a _ less refl refl there.1

-- and after that
asks_around_lookahead : (m : MatchFunctions) (t : List ℕ) (n : ℕ) (a : Asked) (b i h r : ℕ) → nat_lt n (i - 1) ≡ false
    → number_16 t (2 + 2 * b + 2 + 2 * (i - 1)) ≡ Some h
    → asked_around t b i n ≡ Some a → Asks m (chained_of m t b i h r) n a
asks_around_lookahead m t n a b i h r beyond eh asked =
    let opened : asked_around t b i n
    ≡ (if nat_lt (n - (i - 1)) h
    then option_map Lookahead (number_16 t (2 + 2 * b + 2 + 2 * (i - 1) + 2 + 2 * (n - (i - 1)))) else None) =
    rw beyond (rw eh refl) in
    let there = if_none (nat_lt (n - (i - 1)) h)
    (option_map Lookahead (number_16 t (2 + 2 * b + 2 + 2 * (i - 1) + 2 + 2 * (n - (i - 1))))) a (sym opened ∙ asked) in
    let within : nat_lt (n - (i - 1)) h ≡ true = there.0 in
    let backtrack : i - 1 ≤ n = grind (arith, common_steps, beyond) in
    let less : n - (i - 1) < h = grind (arith, common_steps, within) in
    asks_lookahead m (chained_of m t b i h r) t (2 + 2 * b + 2 + 2 * (i - 1) + 2) n a _ backtrack less refl refl there.1

asks_chained : (m : MatchFunctions) (t : List ℕ) (n : ℕ) (a : Asked) (p : Pattern) (b i h r : Option ℕ) → number_16 t 0 ≡ b
    → number_16 t (2 + 2 * unwrap_or b 0) ≡ i
    → number_16 t (2 + 2 * unwrap_or b 0 + 2 + 2 * (unwrap_or i 0 - 1)) ≡ h
    → number_16 t (2 + 2 * unwrap_or b 0 + 2 + 2 * (unwrap_or i 0 - 1) + 2 + 2 * unwrap_or h 0) ≡ r
    → chained_asked t n ≡ Some a → chained_pattern m t ≡ Some p → Asks m p n a
asks_chained m t n a p None i h r eb ei eh er asked is =
    let none : chained_pattern m t ≡ None = rw eb refl in
    cc
asks_chained m t n a p (Some b) None h r eb ei eh er asked is =
    let none : chained_pattern m t ≡ None = rw eb (rw ei refl) in
    cc
asks_chained m t n a p (Some b) (Some i) None r eb ei eh er asked is =
    let none : chained_pattern m t ≡ None = rw eb (rw ei (rw eh refl)) in
    cc
asks_chained m t n a p (Some b) (Some i) (Some h) None eb ei eh er asked is =
    let none : chained_pattern m t ≡ None = rw eb (rw ei (rw eh (rw er refl))) in
    cc
asks_chained m t n a p (Some b) (Some i) (Some h) (Some r) eb ei eh er asked is =
    let some : chained_pattern m t ≡ Some (chained_of m t b i h r) = rw eb (rw ei (rw eh (rw er refl))) in
    let e : chained_of m t b i h r ≡ p = cc in
    let opened : chained_asked t n ≡ asked_around t b i n = rw eb (rw ei refl) in
    let around = sym opened ∙ asked in
    subst (λ q. Asks m q n a) e
    (elim (cases_Bool (nat_lt n (i - 1))) [
      | inl within ↦ asks_around_input m t n a b i h r within around
      | inr beyond ↦ asks_around_lookahead m t n a b i h r beyond eh around
    ])

-- the rule asks for what its bytes say
pub asks : (chained : Bool) (m : MatchFunctions) (t : List ℕ) (n : ℕ) (a : Asked) (p : Pattern) → asked_at chained t n ≡ Some a
    → rule_pattern chained m t ≡ Some p → Asks m p n a
asks true m t n a p asked is = asks_chained m t n a p _ _ _ _ refl refl refl refl asked is
asks false m t n a p asked is = asks_plain m t n a p _ _ refl refl asked is

-- a glyph is not what is asked for
fits_at-input : (m : MatchFunctions) (p : Pattern) (n g number : ℕ) (numbers : Numbers) → AreNumbersOf m g numbers
    → AsksFor m.input p.input p.input_count n number → number ≢ numbers.input → fits_at p n g ≡ false
fits_at-input m p n g number numbers are asks other =
    let within : nat_lt n p.input_count ≡ true = grind (arith, common_steps, asks.less) in
    rw (within, asks.is) (are.0 asks.numbers n number asks.has other)

fits_at-neighbours : (m : MatchFunctions) (p : Pattern) (n g number : ℕ) (numbers : Numbers) → AreNumbersOf m g numbers
    → p.input_count ≤ n → AsksFor m.lookahead p.lookahead p.lookahead_count (n - p.input_count) number → number ≢ numbers.lookahead
    → fits_at p n g ≡ false
fits_at-neighbours m p n g number numbers are backtrack asks other =
    let beyond : nat_lt n p.input_count ≡ false = grind (arith, common_steps, backtrack) in
    let within : nat_lt (n - p.input_count) p.lookahead_count ≡ true = grind (arith, common_steps, asks.less) in
    rw (beyond, within, asks.is) (are.1 asks.numbers (n - p.input_count) number asks.has other)

not_equal : (a b : ℕ) → not (nat_eq a b) ≡ true → a ≢ b
not_equal a b other = grind (arith, common_steps)

pub fits_at-other : (m : MatchFunctions) (p : Pattern) (n g : ℕ) (numbers : Numbers) (a : Asked) → AreNumbersOf m g numbers
    → Asks m p n a → is_other numbers a ≡ true → fits_at p n g ≡ false
fits_at-other m p n g numbers (Input number) are asks other =
    fits_at-input m p n g number numbers are asks (not_equal _ _ other)
fits_at-other m p n g numbers (Lookahead number) are asks other =
    fits_at-neighbours m p n g number numbers are asks.0 asks.1 (not_equal _ _ other)

and_false : (b : Bool) → (b && false) ≡ false
and_false true = refl
and_false false = refl

-- by the first glyph
pub apart_first : (m : MatchFunctions) (first : Next) (second : Option Next) (numbers : Numbers) → AreNumbersOf m first.glyph numbers
    → IsApart (Seen first second) m 0 numbers
apart_first m first second numbers are = λ p a asks other. rw (fits_at-other m p 0 first.glyph numbers a are asks other) refl

-- by the second one
pub apart_second : (m : MatchFunctions) (first second : Next) (numbers : Numbers) → AreNumbersOf m second.glyph numbers
    → IsApart (Seen first (Some second)) m 1 numbers
apart_second m first second numbers are = λ p a asks other.
    rw (fits_at-other m p 1 second.glyph numbers a are asks other) (and_false _)

-- a rule that asks for another glyph of the input right after the cursor does not fit
missed_input : (s : ApplyContext) (m : MatchFunctions) (p : Pattern) (number : ℕ) (beside : Beside) → Asks m p 0 (Input number)
    → IsInput s m beside → number ≢ beside.number → pattern_fits s p ≡ false
missed_input s m p number beside asks is other =
    pattern_fits-no_next s p asks.less (rw asks.is (is asks.numbers number asks.has other))

-- nor does one that asks for another one after an input of one
missed_lookahead : (s : ApplyContext) (m : MatchFunctions) (p : Pattern) (number : ℕ) (beside : Beside) → Asks m p 0 (Lookahead number)
    → IsLookahead s m beside → number ≢ beside.number → pattern_fits s p ≡ false
missed_lookahead s m p number beside asks is other =
    let one : p.input_count ≡ 0 = omega (arith, asks.0) in
    let none : 0 - p.input_count ≡ 0 = omega arith in
    let for = subst (λ n. AsksFor m.lookahead p.lookahead p.lookahead_count n number) none asks.1 in
    pattern_fits-no_lookahead s p one for.less (rw for.is (is for.numbers number for.has other))

rule_fits-input_by : (s : ApplyContext) (chained : Bool) (m : MatchFunctions) (t : List ℕ) (number : ℕ) (beside : Beside) (o : Option Pattern)
    → rule_pattern chained m t ≡ o → asked_at chained t 0 ≡ Some (Input number) → IsInput s m beside → number ≢ beside.number
    → rule_fits s o ≡ false
rule_fits-input_by s chained m t number beside None is asked seen other = refl
rule_fits-input_by s chained m t number beside (Some p) is asked seen other =
    missed_input s m p number beside (asks chained m t 0 (Input number) p asked is) seen other

pub rule_fits-input : (s : ApplyContext) (chained : Bool) (m : MatchFunctions) (t : List ℕ) (number : ℕ) (beside : Beside)
    → asked_at chained t 0 ≡ Some (Input number) → IsInput s m beside → number ≢ beside.number
    → rule_fits s (rule_pattern chained m t) ≡ false
rule_fits-input s chained m t number beside asked seen other =
    rule_fits-input_by s chained m t number beside _ refl asked seen other

rule_fits-ahead_by : (s : ApplyContext) (chained : Bool) (m : MatchFunctions) (t : List ℕ) (number : ℕ) (beside : Beside) (o : Option Pattern)
    → rule_pattern chained m t ≡ o → asked_at chained t 0 ≡ Some (Lookahead number) → IsLookahead s m beside → number ≢ beside.number
    → rule_fits s o ≡ false
rule_fits-ahead_by s chained m t number beside None is asked seen other = refl
rule_fits-ahead_by s chained m t number beside (Some p) is asked seen other =
    missed_lookahead s m p number beside (asks chained m t 0 (Lookahead number) p asked is) seen other

pub rule_fits-lookahead : (s : ApplyContext) (chained : Bool) (m : MatchFunctions) (t : List ℕ) (number : ℕ) (beside : Beside)
    → asked_at chained t 0 ≡ Some (Lookahead number) → IsLookahead s m beside → number ≢ beside.number
    → rule_fits s (rule_pattern chained m t) ≡ false
rule_fits-lookahead s chained m t number beside asked seen other =
    rule_fits-ahead_by s chained m t number beside _ refl asked seen other

-- the next glyph that counts, by its number
pub beside_at : (w : SkippingIterator) (gs : List hb_glyph_info_t) (p : ℕ) (m : MatchFunction) (beside : Beside) → next_found w Any gs 0 ≡ At p
    → skip_of w (glyph_at gs p) ≡ No → IsNumberOf m (glyph_at gs p).glyph_id beside.number → IsBeside w gs m beside
beside_at w gs p m beside found stays number = λ numbers asked has other.
    next_place-other w gs 0 p (matcher_by m numbers 0) found (counts-no w _ stays)
    (λ x is. is_shown-wanted m numbers 0 x is) (number numbers 0 asked has other)

-- there is none
pub beside_none : (w : SkippingIterator) (gs : List hb_glyph_info_t) (m : MatchFunction) (beside : Beside) → place_of (next_found w Any gs 0) ≡ None
    → IsBeside w gs m beside
beside_none w gs m beside none = λ numbers asked has other. next_place-absent w gs 0 (matcher_by m numbers 0) none

-- what is said of a value that there may be
pub if_some-more : (o : Option Beside) {P Q : Beside → Type 0} → IfSome o P → ((b : Beside) → P b → Q b) → IfSome o Q
if_some-more None is more = tt
if_some-more (Some b) is more = more b is
