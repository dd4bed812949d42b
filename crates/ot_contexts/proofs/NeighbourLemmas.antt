-- What the next glyph that counts says of whatever is asked for after a place.
use Rattle.std.proofs.Common.{◌≡◌, ◌≢◌, ℕ, zero, suc, ◌+◌, ◌<◌, ◌≤◌, ◌&&◌, ◌||◌, Bool, true, false, not, List, length, [], ◌∷◌, drop, Option, Some, None, refl, arith, subst, sym, ap, nat_lt, inl, inr}
use Rattle.std.proofs.Common.{if◌then◌else◌}
use Rattle.std.proofs.lemmas.Bool.{cases_Bool}
use Rattle.std.proofs.lemmas.Grind.{common_steps}
use Rattle.rb_glyph.specs.declared.info.hb_glyph_info_t.{hb_glyph_info_t}
use Rattle.ot_contexts.specs.Pattern.{Pattern}
use Rattle.ot_contexts.specs.RuleSet.{asks_nothing, counted, counts, fits_at, fits_next, fits_second, looks_first, next_counted}
use Rattle.ot_layout.specs.SkippingIterator.{first_kept, fits, found_at, is_shown, is_within, matches, next_found, passed_over, passes, skip_of, place_of}
use Rattle.ot_lookups.specs.LookupProps.{glyph_at}
use Rattle.ot_contexts.specs.declared.neighbours.Next.{Next}
use Rattle.ot_layout.specs.declared.search.ApplyContext.{ApplyContext}
use Rattle.ot_layout.specs.declared.skipping_iterator.Found.TheVariants.{At, Other, End}
use Rattle.ot_layout.specs.declared.skipping_iterator.Skip.TheVariants.{No}
use Rattle.ot_layout.specs.declared.skipping_iterator.SkippingIterator.{SkippingIterator}
use Rattle.ot_layout.specs.declared.matcher.Matcher.{Matcher}
use Rattle.ot_layout.specs.declared.matcher.Matcher.TheVariants.{Any, Glyph}
use Rattle.ot_layout.proofs.SkippingIteratorLemmas.{first_kept-here}
use Rattle.ot_layout.specs.ApplyContext.{input_iterator}

-- where one walk passes over all that another does, and stays where that one stays, they stay at the same place
passed_over-same : (p q : hb_glyph_info_t → Bool) (gs : List hb_glyph_info_t)
    → ((g : hb_glyph_info_t) → p g ≡ true → q g ≡ true)
    → q (glyph_at gs (passed_over p gs)) ≡ false → passed_over q gs ≡ passed_over p gs
passed_over-same p q [] more stays = refl
passed_over-same p q (g ∷ gs) more stays =
    elim (cases_Bool (p g)) [
      | inl passes ↦
          let too = more g passes in
          let rest : q (glyph_at gs (passed_over p gs)) ≡ false = rw passes at stays in
          rw (passes, too, passed_over-same p q gs more rest) refl
      | inr keeps ↦
          let here : q g ≡ false = rw keeps at stays in
          rw (keeps, here) refl
    ]

first_kept-same : (p q : hb_glyph_info_t → Bool) (gs : List hb_glyph_info_t) (i : ℕ)
    → ((g : hb_glyph_info_t) → p g ≡ true → q g ≡ true)
    → q (glyph_at gs (first_kept p gs i)) ≡ false → first_kept q gs i ≡ first_kept p gs i
first_kept-same p q gs zero more stays =
    let e : 0 + passed_over p gs ≡ passed_over p gs = omega arith in
    ap (λ n. 0 + n) (passed_over-same p q gs more (subst (λ n. q (glyph_at gs n) ≡ false) e stays))
first_kept-same p q [] (suc i) more stays = refl
first_kept-same p q (g ∷ gs) (suc i) more stays =
    let e : suc i + passed_over p (drop i gs) ≡ suc (i + passed_over p (drop i gs)) = omega arith in
    let rest = first_kept-same p q gs i more (subst (λ n. q (glyph_at (g ∷ gs) n) ≡ false) e stays) in
    omega (arith, rest)

-- one that passes over more comes no less far
passed_over-more : (p q : hb_glyph_info_t → Bool) (gs : List hb_glyph_info_t)
    → ((g : hb_glyph_info_t) → p g ≡ true → q g ≡ true) → passed_over p gs ≤ passed_over q gs
passed_over-more p q [] more = omega arith
passed_over-more p q (g ∷ gs) more =
    elim (cases_Bool (p g)) [
      | inl passes ↦
          let too = more g passes in
          let rest = passed_over-more p q gs more in
          rw (passes, too) (omega (arith, rest))
      | inr keeps ↦ rw keeps (omega arith)
    ]

-- a walk does not pass over the glyph at which it stays
passed_over-stays : (p : hb_glyph_info_t → Bool) (gs : List hb_glyph_info_t) → passed_over p gs < length gs
    → p (glyph_at gs (passed_over p gs)) ≡ false
passed_over-stays p [] less = absurd (omega (arith, less))
passed_over-stays p (g ∷ gs) less =
    elim (cases_Bool (p g)) [
      | inl passes ↦
          let here : suc (passed_over p gs) < suc (length gs) = rw passes at less in
          rw passes (passed_over-stays p gs (omega (arith, here)))
      | inr keeps ↦ rw keeps keeps
    ]

first_kept-stays : (p : hb_glyph_info_t → Bool) (gs : List hb_glyph_info_t) (i : ℕ) → first_kept p gs i < length gs
    → p (glyph_at gs (first_kept p gs i)) ≡ false
first_kept-stays p gs zero less =
    let e : 0 + passed_over p gs ≡ passed_over p gs = omega arith in
    rw e (passed_over-stays p gs (omega (arith, less)))
first_kept-stays p [] (suc i) less = absurd (omega (arith, less))
first_kept-stays p (g ∷ gs) (suc i) less =
    let e : suc i + passed_over p (drop i gs) ≡ suc (i + passed_over p (drop i gs)) = omega arith in
    let within : first_kept p gs i < length gs = omega (arith, less, e) in
    rw e (first_kept-stays p gs i within)

-- a walk that asks for something passes over all that one passes over that asks for nothing
passes-any : (w : SkippingIterator) (x : Matcher) (g : hb_glyph_info_t) → passes w Any g ≡ true → passes w x g ≡ true
unfolding passes
passes-any w x g passes = grind (arith, common_steps)

-- each walk stays at a glyph that counts
passes-counting : (w : SkippingIterator) (x : Matcher) (g : hb_glyph_info_t) → counts w g ≡ true → passes w x g ≡ false
unfolding passes
passes-counting w x g here = grind (arith, common_steps)

-- so it does at a glyph that the iterator is not for, where one that asks for nothing stays there
passes-without : (w : SkippingIterator) (x : Matcher) (g : hb_glyph_info_t) → is_within w g ≡ false → passes w Any g ≡ false
    → passes w x g ≡ false
unfolding passes
passes-without w x g without stays = grind (arith, common_steps)

-- another glyph than is asked for
pub matches-other : (w : SkippingIterator) (x : Matcher) (g : hb_glyph_info_t) → is_shown x ≡ false → fits x g.glyph_id ≡ false
    → matches w x g ≡ false
unfolding matches
matches-other w x g asks other = grind (arith, common_steps)

-- a glyph that the iterator is not for
pub matches-without : (w : SkippingIterator) (x : Matcher) (g : hb_glyph_info_t) → is_within w g ≡ false → matches w x g ≡ false
unfolding matches
matches-without w x g without = rw without refl

matches-any : (w : SkippingIterator) (g : hb_glyph_info_t) → matches w Any g ≡ false → is_within w g ≡ false
unfolding matches
matches-any w g misses = grind (arith, common_steps)

-- a glyph that counts
pub counts-no : (w : SkippingIterator) (g : hb_glyph_info_t) → skip_of w g ≡ No → counts w g ≡ true
counts-no w g stays = grind (arith, common_steps)

pub counts-yes : (w : SkippingIterator) (g : hb_glyph_info_t) → skip_of w g ≢ No → counts w g ≡ false
counts-yes w g passes = grind (arith, common_steps)

at_is : (b m : Bool) (n p : ℕ) → (if b then (if m then At n else Other n) else End) ≡ At p → n ≡ p
at_is true true n p e = cc
at_is true false n p e = cc
at_is false m n p e = cc

at_within : (b m : Bool) (n p : ℕ) → (if b then (if m then At n else Other n) else End) ≡ At p → b ≡ true
at_within true m n p e = refl
at_within false m n p e = cc

place_of-not_at : (b m : Bool) (n : ℕ) → m ≡ false → place_of (if b then (if m then At n else Other n) else End) ≡ None
place_of-not_at true m n misses = rw misses refl
place_of-not_at false m n misses = refl

place_of-end : (b m : Bool) (n : ℕ) → b ≡ false → place_of (if b then (if m then At n else Other n) else End) ≡ None
place_of-end b m n e = rw e refl

place_of-misses : (m : Bool) (n : ℕ) → place_of (if m then At n else Other n) ≡ None → m ≡ false
place_of-misses true n none = cc
place_of-misses false n none = refl

place_of-here : (m : Bool) (n q : ℕ) → place_of (if m then At n else Other n) ≡ Some q → q ≡ n
place_of-here true n q some = cc
place_of-here false n q some = cc

-- no glyph stands after the last one
pub place_of-last : (w : SkippingIterator) (x : Matcher) (gs : List hb_glyph_info_t) (i : ℕ) → i + 1 ≡ length gs
    → place_of (next_found w x gs i) ≡ None
unfolding next_found
place_of-last w x gs i end = place_of-end _ _ _ (grind (arith, end))

-- the glyph right after a place counts, and is not what is asked for
pub place_of-beside : (w : SkippingIterator) (x : Matcher) (gs : List hb_glyph_info_t) (i : ℕ) → i + 1 < length gs
    → counts w (glyph_at gs (i + 1)) ≡ true → matches w x (glyph_at gs (i + 1)) ≡ false
    → place_of (next_found w x gs i) ≡ None
unfolding next_found
place_of-beside w x gs i more here misses =
    let stays : first_kept (passes w x) gs (i + 1) ≡ i + 1 =
    first_kept-here (passes w x) gs (i + 1) more (passes-counting w x _ here) in
    place_of-not_at _ _ _ (subst (λ n. matches w x (glyph_at gs n) ≡ false) (sym stays) misses)

-- each walk stays at the glyph that counts where one stays that asks for nothing
next_found-counted : (w : SkippingIterator) (x : Matcher) (gs : List hb_glyph_info_t) (i p : ℕ) → next_found w Any gs i ≡ At p
    → counts w (glyph_at gs p) ≡ true → next_found w x gs i ≡ found_at w x gs p
unfolding next_found
next_found-counted w x gs i p found here =
    let at : first_kept (passes w Any) gs (i + 1) ≡ p = at_is _ _ _ _ found in
    let within : nat_lt (first_kept (passes w Any) gs (i + 1)) (length gs) ≡ true = at_within _ _ _ _ found in
    let stays = subst (λ n. passes w x (glyph_at gs n) ≡ false) (sym at) (passes-counting w x _ here) in
    let same = first_kept-same (passes w Any) (passes w x) gs (i + 1) (passes-any w x) stays in
    rw (same, within, at) refl

pub place_of-counted_other : (w : SkippingIterator) (x : Matcher) (gs : List hb_glyph_info_t) (i p : ℕ) → next_found w Any gs i ≡ At p
    → counts w (glyph_at gs p) ≡ true → is_shown x ≡ false → fits x (glyph_at gs p).glyph_id ≡ false
    → place_of (next_found w x gs i) ≡ None
place_of-counted_other w x gs i p found here asks other =
    rw (next_found-counted w x gs i p found here, matches-other w x (glyph_at gs p) asks other) refl

pub place_of-counted_same : (w : SkippingIterator) (x : Matcher) (gs : List hb_glyph_info_t) (i p q : ℕ) → next_found w Any gs i ≡ At p
    → counts w (glyph_at gs p) ≡ true → place_of (next_found w x gs i) ≡ Some q → q ≡ p
place_of-counted_same w x gs i p q found here some =
    place_of-here (matches w x (glyph_at gs p)) p q (rw (next_found-counted w x gs i p found here) at some)

-- where nothing is found by one that asks for nothing, nothing is found
pub place_of-absent : (w : SkippingIterator) (x : Matcher) (gs : List hb_glyph_info_t) (i : ℕ) → place_of (next_found w Any gs i) ≡ None
    → place_of (next_found w x gs i) ≡ None
unfolding next_found
place_of-absent w x gs i none =
    let n = first_kept (passes w Any) gs (i + 1) in
    elim (cases_Bool (nat_lt n (length gs))) [
      | inl within ↦
          let here : place_of (found_at w Any gs n) ≡ None = rw within at none in
          let without = matches-any w (glyph_at gs n) (place_of-misses _ _ here) in
          let stays = first_kept-stays (passes w Any) gs (i + 1) (grind (arith, common_steps)) in
          let too = passes-without w x (glyph_at gs n) without stays in
          let same = first_kept-same (passes w Any) (passes w x) gs (i + 1) (passes-any w x) too in
          place_of-not_at _ _ _ (subst (λ k. matches w x (glyph_at gs k) ≡ false) (sym same) (matches-without w x _ without))
      | inr beyond ↦
          let more = passed_over-more (passes w Any) (passes w x) (drop (i + 1) gs) (passes-any w x) in
          place_of-end _ _ _ (grind (arith, common_steps))
    ]

-- a glyph that counts and is another than one asks for
pub place_of_kept_other : (w : SkippingIterator) (gs : List hb_glyph_info_t) (i p asked : ℕ) → next_found w Any gs i ≡ At p
    → skip_of w (glyph_at gs p) ≡ No → asked ≢ (glyph_at gs p).glyph_id
    → place_of (next_found w (Glyph asked) gs i) ≡ None
place_of_kept_other w gs i p asked found stays other =
    place_of-counted_other w (Glyph asked) gs i p found (counts-no w _ stays) refl (grind (arith, common_steps))

-- a glyph right after a place that counts and is another than one asks for
pub place_of_beside_other : (w : SkippingIterator) (gs : List hb_glyph_info_t) (i asked : ℕ) → i + 1 < length gs
    → skip_of w (glyph_at gs (i + 1)) ≡ No → asked ≢ (glyph_at gs (i + 1)).glyph_id
    → place_of (next_found w (Glyph asked) gs i) ≡ None
place_of_beside_other w gs i asked more stays other =
    place_of-beside w (Glyph asked) gs i more (counts-no w _ stays)
    (matches-other w (Glyph asked) _ refl (grind (arith, common_steps)))

-- the next glyph that counts
counted-some : (w : SkippingIterator) (gs : List hb_glyph_info_t) (p : ℕ) → counts w (glyph_at gs p) ≡ true
    → counted w gs (At p) ≡ Some (record { glyph = (glyph_at gs p).glyph_id; end = p + 1 })
counted-some w gs p here = rw here refl

pub next_counted-here : (w : SkippingIterator) (gs : List hb_glyph_info_t) (i p : ℕ) → next_found w Any gs i ≡ At p
    → skip_of w (glyph_at gs p) ≡ No
    → next_counted w gs i ≡ Some (record { glyph = (glyph_at gs p).glyph_id; end = p + 1 })
next_counted-here w gs i p found stays = rw found (counted-some w gs p (counts-no w _ stays))

pub next_counted-passed : (w : SkippingIterator) (gs : List hb_glyph_info_t) (i p : ℕ) → next_found w Any gs i ≡ At p
    → skip_of w (glyph_at gs p) ≢ No → next_counted w gs i ≡ None
next_counted-passed w gs i p found passes = rw found (rw (counts-yes w _ passes) refl)

pub next_counted-other : (w : SkippingIterator) (gs : List hb_glyph_info_t) (i p : ℕ) → next_found w Any gs i ≡ Other p
    → next_counted w gs i ≡ None
next_counted-other w gs i p found = rw found refl

pub next_counted-end : (w : SkippingIterator) (gs : List hb_glyph_info_t) (i : ℕ) → next_found w Any gs i ≡ End
    → next_counted w gs i ≡ None
next_counted-end w gs i found = rw found refl

next_found-beside : (w : SkippingIterator) (gs : List hb_glyph_info_t) (i : ℕ) → i + 1 < length gs
    → counts w (glyph_at gs (i + 1)) ≡ true → is_within w (glyph_at gs (i + 1)) ≡ true
    → next_found w Any gs i ≡ At (i + 1)
unfolding next_found matches
next_found-beside w gs i more here within =
    let stays : first_kept (passes w Any) gs (i + 1) ≡ i + 1 =
    first_kept-here (passes w Any) gs (i + 1) more (passes-counting w Any _ here) in
    let inside : nat_lt (i + 1) (length gs) ≡ true = grind (arith, more) in
    rw (stays, inside, within) refl

-- the glyph right after a place
pub next_counted-beside : (w : SkippingIterator) (gs : List hb_glyph_info_t) (i n : ℕ) → i + 1 < length gs
    → skip_of w (glyph_at gs (i + 1)) ≡ No → is_within w (glyph_at gs (i + 1)) ≡ true → n ≡ i + 2
    → next_counted w gs i ≡ Some (record { glyph = (glyph_at gs (i + 1)).glyph_id; end = n })
next_counted-beside w gs i n more stays within end =
    let here = counts-no w _ stays in
    let e : n ≡ i + 1 + 1 = omega (arith, end) in
    rw e (rw (next_found-beside w gs i more here within) (counted-some w gs (i + 1) here))

pub ruleset kept =
    (place_of_kept_other, next_counted-here, next_counted-passed, next_counted-other, next_counted-end)

pub ruleset beside = (place_of_beside_other, next_counted-beside)

-- what the next two glyphs of the input say of a rule
fits_next-seen : (s : ApplyContext) (p : Pattern) (place : ℕ) (next : Next) (second : Option Next)
    → next_found (input_iterator s) Any s.input.now 0 ≡ At place → skip_of (input_iterator s) (glyph_at s.input.now place) ≡ No
    → next.glyph ≡ (glyph_at s.input.now place).glyph_id → second ≡ next_counted (input_iterator s) s.input.now place
    → fits_next s p ≡ (fits_at p 0 next.glyph && fits_second p second)
unfolding fits_next
fits_next-seen s p place next second found stays glyph is =
    rw (glyph, is, found, counts-no (input_iterator s) _ stays) refl

pub and-seen : (s : ApplyContext) (p : Pattern) (place : ℕ) (chained : Bool) (count : ℕ) (next : Next) (second : Option Next)
    → looks_first s chained count ≡ true → next_found (input_iterator s) Any s.input.now 0 ≡ At place
    → skip_of (input_iterator s) (glyph_at s.input.now place) ≡ No → next.glyph ≡ (glyph_at s.input.now place).glyph_id
    → second ≡ next_counted (input_iterator s) s.input.now place
    → (fits_at p 0 next.glyph && fits_second p second) ≡ (not (looks_first s chained count) || fits_next s p)
and-seen s p place chained count next second looks found stays glyph is =
    rw looks (sym (fits_next-seen s p place next second found stays glyph is))

-- one that may be passed over says nothing
pub fits_next-passed : (s : ApplyContext) (p : Pattern) (place : ℕ) → next_found (input_iterator s) Any s.input.now 0 ≡ At place
    → skip_of (input_iterator s) (glyph_at s.input.now place) ≢ No → fits_next s p ≡ true
unfolding fits_next
fits_next-passed s p place found passes = rw (found, counts-yes (input_iterator s) _ passes) refl

-- there is none
pub fits_next-other : (s : ApplyContext) (p : Pattern) (place : ℕ) → next_found (input_iterator s) Any s.input.now 0 ≡ Other place
    → fits_next s p ≡ asks_nothing p
unfolding fits_next
fits_next-other s p place found = rw found refl

pub fits_next-end : (s : ApplyContext) (p : Pattern) → next_found (input_iterator s) Any s.input.now 0 ≡ End
    → fits_next s p ≡ asks_nothing p
unfolding fits_next
fits_next-end s p found = rw found refl

pub ruleset seen_first = (fits_next-passed, fits_next-other, fits_next-end)
