-- Steps of matches, and of the search for the first ligature.
use Rattle.std.proofs.Common.{◌≡◌, ◌≢◌, ℕ, zero, suc, ◌+◌, ◌*◌, ◌<◌, ◌==◌, Bool, true, false, List, [], ◌∷◌, ◌++◌, drop, Option, Some, None, refl, arith, ◌-◌, nat_lt, sym, ◌∙◌, ap, inl, inr}
use Rattle.std.proofs.Common.{if◌then◌else◌, option_map, option_and_then, unwrap_or, is_some}
use Rattle.std.proofs.lemmas.Bool.{cases_lt}
use Rattle.std.proofs.lemmas.Grind.{common_steps}
use Rattle.font_tables.specs.Bytes.{number_16, table_at_16}
use Rattle.rb_glyph.specs.declared.info.hb_glyph_info_t.{hb_glyph_info_t}
use Rattle.ot_layout.specs.LigatureParts.{ligature_id, ligature_component}
use Rattle.ot_contexts.specs.Match.{is_hidden_before, joins, last_place, next_place, first_of, ligature_at, ligature_of, match_end, match_of, match_places, components_match}
use Rattle.ot_lookups.specs.Seconds.{AsksForOther}
use Rattle.ot_contexts.specs.Rule.{matcher_by}
use Rattle.ot_contexts.specs.declared.rule.MatchFunction.TheVariants as rule
use Rattle.ot_contexts.specs.declared.neighbours.Next.{Next}
use Rattle.ot_lookups.specs.LookupProps.{glyph_at, passes_over}
use Rattle.ot_lookups.specs.declared.lookup_props.LookupProps.{LookupProps}
use Rattle.ot_layout.specs.declared.search.ApplyContext.{ApplyContext}
use Rattle.ot_layout.specs.declared.skipping_iterator.SkippingIterator.{SkippingIterator}
use Rattle.ot_layout.specs.declared.matcher.Matcher.{Matcher}
use Rattle.ot_layout.specs.declared.matcher.Matcher.TheVariants.{Glyph}
use Rattle.ot_layout.specs.ApplyContext.{input_iterator}
use Rattle.ot_contexts.specs.Neighbours.{IsNext}

equal_true : (a b : ℕ) → a ≡ b → (a == b) ≡ true
equal_true a b same = grind (arith, common_steps)

unequal_false : (a b : ℕ) → (a ≡ b → ⊥) → (a == b) ≡ false
unequal_false a b other = grind (arith, common_steps)

-- a glyph of another ligature, or of none
pub hidden_other : (f : LookupProps) (id : ℕ) (gs : List hb_glyph_info_t) (i j : ℕ) → i ≡ j + 1
    → (ligature_id (glyph_at gs j) == id) ≡ false → is_hidden_before f id gs i ≡ false
unfolding is_hidden_before
hidden_other f id gs i j next other =
    let e : i ≡ suc j = omega (arith, next) in
    rw e (rw other refl)

-- the ligature itself
pub is_hidden_before-here : (f : LookupProps) (id : ℕ) (gs : List hb_glyph_info_t) (i j : ℕ) → i ≡ j + 1
    → (ligature_id (glyph_at gs j) == id) ≡ true → (ligature_component (glyph_at gs j) == 0) ≡ true
    → is_hidden_before f id gs i ≡ passes_over f (glyph_at gs j)
unfolding is_hidden_before
is_hidden_before-here f id gs i j next same itself =
    let e : i ≡ suc j = omega (arith, next) in
    rw e (rw (same, itself) refl)

-- a mark of it
pub is_hidden_before-later : (f : LookupProps) (id : ℕ) (gs : List hb_glyph_info_t) (i j : ℕ) → i ≡ j + 1
    → (ligature_id (glyph_at gs j) == id) ≡ true → (ligature_component (glyph_at gs j) == 0) ≡ false
    → is_hidden_before f id gs i ≡ is_hidden_before f id gs j
unfolding is_hidden_before
is_hidden_before-later f id gs i j next same mark =
    let e : i ≡ suc j = omega (arith, next) in
    rw e (rw (same, mark) refl)

-- the same of numbers
pub is_hidden_before-mark : (f : LookupProps) (id : ℕ) (gs : List hb_glyph_info_t) (i j : ℕ) → i ≡ j + 1
    → ligature_id (glyph_at gs j) ≡ id → (ligature_component (glyph_at gs j) ≡ 0 → ⊥)
    → is_hidden_before f id gs i ≡ is_hidden_before f id gs j
is_hidden_before-mark f id gs i j next same mark =
    is_hidden_before-later f id gs i j next (equal_true _ _ same) (unequal_false _ _ mark)

-- no glyph
pub hidden_nowhere : (f : LookupProps) (id : ℕ) (gs : List hb_glyph_info_t) (i : ℕ) → i ≡ 0
    → is_hidden_before f id gs i ≡ false
unfolding is_hidden_before
hidden_nowhere f id gs i end = rw end refl

pub ruleset leaving = (hidden_other, is_hidden_before-here, is_hidden_before-later, hidden_nowhere)

-- a match of the first glyph alone
pub last_place_none : (s : ApplyContext) (asked : ℕ → Option Matcher) → last_place s asked 0 ≡ Some 0
unfolding last_place
last_place_none s asked = refl

-- one more glyph of a match
pub last_place-more : (s : ApplyContext) (asked : ℕ → Option Matcher) (k p q : ℕ) → last_place s asked k ≡ Some p
    → next_place (input_iterator s) (asked k) s.input.now p ≡ Some q → joins s q ≡ true
    → last_place s asked (k + 1) ≡ Some q
unfolding last_place
last_place-more s asked k p q so_far next joining =
    let e : k + 1 ≡ suc k = omega arith in
    rw e (rw so_far (rw next (rw joining refl)))

-- the places of a match
pub match_places_first : (s : ApplyContext) (asked : ℕ → Option Matcher) → match_places s asked 0 ≡ 0 ∷ []
unfolding match_places
match_places_first s asked = refl

pub match_places-more : (s : ApplyContext) (asked : ℕ → Option Matcher) (k q : ℕ) (places : List ℕ)
    → last_place s asked (k + 1) ≡ Some q → places ≡ match_places s asked k → places ++ q ∷ [] ≡ match_places s asked (k + 1)
unfolding match_places
match_places-more s asked k q places last so_far =
    let e : k + 1 ≡ suc k = omega arith in
    let at : last_place s asked (suc k) ≡ Some q = rw e at last in
    rw (so_far, e) (sym (ap (λ o. match_places s asked k ++ unwrap_or o 0 ∷ []) at))

pub ruleset first_places = (last_place_none, match_places_first)

-- no match of more where one of fewer is none
pub last_place-never : (s : ApplyContext) (asked : ℕ → Option Matcher) (n k : ℕ) → last_place s asked k ≡ None → k < n + 1
    → last_place s asked n ≡ None
unfolding last_place
last_place-never s asked zero zero never less = never
last_place-never s asked zero (suc k) never less = absurd (omega (arith, less))
last_place-never s asked (suc n) k never less =
    elim (cases_lt k (suc n)) [
      | inl below ↦ rw (last_place-never s asked n k never (omega (arith, below))) refl
      | inr most ↦
          let here : k ≡ suc n = omega arith in
          rw here at never
    ]

-- a glyph that is not there
pub last_place-missing : (s : ApplyContext) (asked : ℕ → Option Matcher) (n k p : ℕ) → last_place s asked k ≡ Some p → k < n
    → next_place (input_iterator s) (asked k) s.input.now p ≡ None → last_place s asked n ≡ None
unfolding last_place
last_place-missing s asked n k p so_far less missing =
    let here : last_place s asked (suc k) ≡ None = rw so_far (rw missing refl) in
    last_place-never s asked n (suc k) here (omega (arith, less))

-- a glyph that may not join
pub last_place-apart : (s : ApplyContext) (asked : ℕ → Option Matcher) (n k p q : ℕ) → last_place s asked k ≡ Some p → k < n
    → next_place (input_iterator s) (asked k) s.input.now p ≡ Some q → joins s q ≡ false
    → last_place s asked n ≡ None
unfolding last_place
last_place-apart s asked n k p q so_far less next apart =
    let here : last_place s asked (suc k) ≡ None = rw so_far (rw next (rw apart refl)) in
    last_place-never s asked n (suc k) here (omega (arith, less))

-- the first of no ligatures
pub first_of-nowhere : (s : ApplyContext) (set : List ℕ) → first_of s set 0 ≡ None
unfolding first_of
first_of-nowhere s set = refl

-- one more ligature that does not fit
pub first_of-later : (s : ApplyContext) (set : List ℕ) (k : ℕ) → first_of s set k ≡ None → ligature_at s set k ≡ None
    → first_of s set (k + 1) ≡ None
unfolding first_of
first_of-later s set k so_far misses =
    let e : k + 1 ≡ suc k = omega arith in
    rw e (rw so_far misses)

-- the first that fits
pub first_of-here : (s : ApplyContext) (set : List ℕ) (n k : ℕ) (found : ℕ × (ℕ × List ℕ)) → first_of s set k ≡ None → k < n
    → ligature_at s set k ≡ Some found → first_of s set n ≡ Some found
unfolding first_of
first_of-here s set zero k found so_far less fits = absurd (omega (arith, less))
first_of-here s set (suc n) k found so_far less fits =
    elim (cases_lt k n) [
      | inl below ↦ rw (first_of-here s set n k found so_far below fits) refl
      | inr most ↦
          let here : n ≡ k = omega (arith, less, most) in
          rw here (rw so_far fits)
    ]

-- the same of an answer
pub first_is : (s : ApplyContext) (set : List ℕ) (n k : ℕ) (found : Option (ℕ × (ℕ × List ℕ))) → first_of s set k ≡ None → k < n
    → found ≡ ligature_at s set k → is_some found ≡ true → found ≡ first_of s set n
first_is s set n k None so_far less is some = cc
first_is s set n k (Some found) so_far less is some = sym (first_of-here s set n k found so_far less (sym is))

pub ruleset first_steps = (first_of-nowhere, first_of-later)

never_if : (b : Bool) (x : Option ℕ) → x ≡ None → (if b then x else None) ≡ None
never_if true x never = never
never_if false x never = refl

if-never : (b : Bool) (x : Option (ℕ × List ℕ)) → x ≡ None → (if b then None else x) ≡ None
if-never true x never = refl
if-never false x never = never

-- a match whose last glyph is not there
pub match_end-never : (s : ApplyContext) (asked : ℕ → Option Matcher) (n : ℕ) → last_place s asked n ≡ None
    → match_end s asked n ≡ None
match_end-never s asked n never =
    never_if (nat_lt n 64) (option_map (λ place. place + 1) (last_place s asked n)) (rw never refl)

match_of-never : (s : ApplyContext) (asked : ℕ → Option Matcher) (n : ℕ) → match_end s asked n ≡ None → match_of s asked n ≡ None
match_of-never s asked n never = rw never refl

match_of-some : (s : ApplyContext) (asked : ℕ → Option Matcher) (n end : ℕ) (places : List ℕ) → match_end s asked n ≡ Some end
    → places ≡ match_places s asked n → match_of s asked n ≡ Some (end, places)
match_of-some s asked n end places ends at = rw (ends, at) refl

next_place-missing_second : (w : SkippingIterator) (gs : List hb_glyph_info_t) (second : Option ℕ) (next : Next)
    → IsNext w gs 0 next
    → second ≢ Some next.glyph → next_place w (option_map Glyph second) gs 0 ≡ None
next_place-missing_second w gs None next is other = refl
next_place-missing_second w gs (Some n) next is other = is n (λ e. other (ap Some e))

components_match-other : (s : ApplyContext) (t : List ℕ) (count : Option ℕ) → 1 < unwrap_or count 0
    → next_place (input_iterator s) (matcher_by rule.Glyphs (drop 4 t) 0) s.input.now 0 ≡ None
    → components_match s t count ≡ None
components_match-other s t None more missing = absurd (omega arith)
components_match-other s t (Some n) more missing =
    if-never _ _ (match_of-never _ _ _ (match_end-never _ _ _
    (last_place-missing s (matcher_by rule.Glyphs (drop 4 t)) (n - 1) 0 0 (last_place_none s _) (omega arith) missing)))

option_and_then-none : (glyph : Option ℕ) (found : Option (ℕ × List ℕ)) → found ≡ None
    → option_and_then {U = ℕ × (ℕ × List ℕ)} (λ g. option_map (λ m. (g, m)) found) glyph ≡ None
option_and_then-none None found never = refl
option_and_then-none (Some g) found never = rw never refl

-- a ligature that asks for another second glyph
ligature_of-other : (s : ApplyContext) (t : List ℕ) (next : Next) → AsksForOther t next.glyph
    → IsNext (input_iterator s) s.input.now 0 next
    → ligature_of s t ≡ None
unfolding ligature_of
ligature_of-other s t next asks is =
    option_and_then-none (number_16 t 0) (components_match s t (number_16 t 2))
    (components_match-other s t (number_16 t 2) asks.0
    (next_place-missing_second (input_iterator s) s.input.now _ next is asks.1))

option_and_then-some : (glyph : Option ℕ) (found : Option (ℕ × List ℕ)) (g : ℕ) (m : ℕ × List ℕ) → glyph ≡ Some g → found ≡ Some m
    → option_and_then {U = ℕ × (ℕ × List ℕ)} (λ x. option_map (λ y. (x, y)) found) glyph ≡ Some (g, m)
option_and_then-some glyph found g m p q = rw (p, q) refl

if-some : (b : Bool) (x : Option (ℕ × List ℕ)) (m : ℕ × List ℕ) → b ≡ false → x ≡ Some m → (if b then None else x) ≡ Some m
if-some b x m here is = rw here is

components_match-some : (s : ApplyContext) (t : List ℕ) (count : Option ℕ) (n : ℕ) (m : ℕ × List ℕ) → count ≡ Some n → 0 < n
    → match_of s (matcher_by rule.Glyphs (drop 4 t)) (n - 1) ≡ Some m → components_match s t count ≡ Some m
components_match-some s t count n m is some found =
    rw is (if-some (n == 0) (match_of s (matcher_by rule.Glyphs (drop 4 t)) (n - 1)) m
    (unequal_false n 0 (omega arith)) found)

-- a ligature whose components stand at the cursor
pub ligature_of-match : (s : ApplyContext) (t : List ℕ) (g n e : ℕ) (places : List ℕ) → number_16 t 0 ≡ Some g
    → number_16 t 2 ≡ Some n → 0 < n → match_end s (matcher_by rule.Glyphs (drop 4 t)) (n - 1) ≡ Some e
    → places ≡ match_places s (matcher_by rule.Glyphs (drop 4 t)) (n - 1) → ligature_of s t ≡ Some (g, (e, places))
unfolding ligature_of
ligature_of-match s t g n e places glyph count some ends at =
    option_and_then-some (number_16 t 0) (components_match s t (number_16 t 2)) g (e, places) glyph
    (components_match-some s t (number_16 t 2) n (e, places) count some
    (match_of-some s (matcher_by rule.Glyphs (drop 4 t)) (n - 1) e places ends at))

-- one of a single component
pub ligature_of-single : (s : ApplyContext) (t : List ℕ) (g n : ℕ) → number_16 t 0 ≡ Some g → number_16 t 2 ≡ Some n → n ≡ 1
    → ligature_of s t ≡ Some (g, (1, 0 ∷ []))
unfolding last_place match_places
ligature_of-single s t g n glyph count one =
    let ends : match_end s (matcher_by rule.Glyphs (drop 4 t)) (n - 1) ≡ Some 1 = rw one refl in
    let at : 0 ∷ [] ≡ match_places s (matcher_by rule.Glyphs (drop 4 t)) (n - 1) = rw one refl in
    ligature_of-match s t g n 1 (0 ∷ []) glyph count (omega arith) ends at

-- no table
pub ligature_at-none : (s : ApplyContext) (set : List ℕ) (k : ℕ) → table_at_16 set (2 + 2 * k) ≡ None
    → ligature_at s set k ≡ None
unfolding ligature_at
ligature_at-none s set k none = rw none refl

-- a table
pub ligature_at-some : (s : ApplyContext) (set t : List ℕ) (k : ℕ) → table_at_16 set (2 + 2 * k) ≡ Some t
    → ligature_at s set k ≡ ligature_of s t
unfolding ligature_at
ligature_at-some s set t k some = rw some refl

-- a table that asks for another second glyph
pub ligature_at-other : (s : ApplyContext) (set t : List ℕ) (k : ℕ) (next : Next) → table_at_16 set (2 + 2 * k) ≡ Some t
    → AsksForOther t next.glyph → IsNext (input_iterator s) s.input.now 0 next → ligature_at s set k ≡ None
ligature_at-other s set t k next some asks is = ligature_at-some s set t k some ∙ ligature_of-other s t next asks is

pub ruleset at_steps = (ligature_at-none, ligature_at-some)
