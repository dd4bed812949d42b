-- The glyph that a context by coverages asks for after the cursor is the one that its rule asks for there.
use Rattle.std.proofs.Common.{◌≡◌, ℕ, zero, suc, ◌+◌, ◌<◌, Bool, true, false, List, [], ◌∷◌, ◌++◌, All, get_or, length, Option, Some, None, refl, arith, subst, sym, min, nat_lt, slice_get, if◌then◌else◌}
use Rattle.std.proofs.lemmas.Grind.{common_steps}
use Rattle.std.proofs.lemmas.Option.{slice_get_read}
use Rattle.std.proofs.lemmas.List.Elements.{All-push, All-weaker}
use Rattle.font_tables.specs.declared.coverage.Coverage.{Coverage}
use Rattle.std.specs.Prelude.{IfSome}
use Rattle.ot_lookups.specs.SubtableKinds.{is_chained}
use Rattle.ot_lookups.specs.NextAsked.{IsNextAt, IsNextOf, lookahead_number, backtrack_number, input_number}
use Rattle.ot_lookups.specs.declared.subtable.NextAsked.{NextAsked}
use Rattle.ot_lookups.specs.declared.subtable.Subtable.{Subtable}

-- one more coverage
slice_get-more : (cs : List Coverage) (c x : Coverage) (i : ℕ) → slice_get cs i ≡ Some x → slice_get (cs ++ (c ∷ [])) i ≡ Some x
slice_get-more [] c x i is = cc
slice_get-more (y ∷ cs) c x zero is = is
slice_get-more (y ∷ cs) c x (suc i) is = slice_get-more cs c x i is

next_at_more : (cs : List Coverage) (c : Coverage) (first : ℕ) (chained : Bool) (table : List ℕ) (next : NextAsked)
    → IsNextAt cs first chained table next → IsNextAt (cs ++ (c ∷ [])) first chained table next
next_at_more cs c first chained table next is = record {
  two = is.two;
  second = λ input. slice_get-more cs c next.coverage _ (is.second input);
  few = is.few;
  some = is.some;
  lookahead = λ input. slice_get-more cs c next.coverage _ (is.lookahead input);
}

pub nexts_more : (cs : List Coverage) (c : Coverage) (ts : List Subtable) → All (IsNextOf cs) ts
    → All (IsNextOf (cs ++ (c ∷ []))) ts
nexts_more cs c ts are =
    All-weaker (IsNextOf cs) (IsNextOf (cs ++ (c ∷ [])))
    (λ t is next has. next_at_more cs c t.first_coverage (is_chained t.kind) t.table.now next (is next has)) ts are

two_or_more : (i : ℕ) (x : Bool) → x ≡ nat_lt 1 i → x ≡ true → 1 < i
two_or_more i x is so = grind (arith, common_steps)

one_at_most : (i : ℕ) (x : Bool) → x ≡ nat_lt 1 i → x ≡ false → i < 2
one_at_most i x is so = grind (arith, common_steps)

-- the coverage of a number that is told by the numbers of the table
pub next_at : (cs : List Coverage) (first : ℕ) (chained : Bool) (table : List ℕ) (next : NextAsked) (b i a at : ℕ)
    → b ≡ backtrack_number chained table → i ≡ input_number chained table → a ≡ lookahead_number chained table
    → (i < 2 → 0 < a) → slice_get cs at ≡ Some next.coverage → at ≡ first + (b + min i 1) → next.is_input ≡ nat_lt 1 i
    → IsNextAt cs first chained table next
next_at cs first chained table next b i a at backtrack input lookahead some is place is_input = record {
  two = λ two. subst (λ n. 1 < n) input (two_or_more i next.is_input is_input two);
  second = λ two.
      let more = two_or_more i next.is_input is_input two in
      let here : at ≡ first + (b + 1) = omega (arith, place, more) in
      subst (λ n. slice_get cs (first + (n + 1)) ≡ Some next.coverage) backtrack
      (subst (λ n. slice_get cs n ≡ Some next.coverage) here is);
  few = λ one. subst (λ n. n < 2) input (one_at_most i next.is_input is_input one);
  some = λ one. subst (λ n. 0 < n) lookahead (some (one_at_most i next.is_input is_input one));
  lookahead = λ one.
      let less = one_at_most i next.is_input is_input one in
      let here : at ≡ first + (b + i) = omega (arith, place, less) in
      subst (λ n. slice_get cs (first + (n + input_number chained table)) ≡ Some next.coverage) backtrack
      (subst (λ n. slice_get cs (first + (b + n)) ≡ Some next.coverage) input
      (subst (λ n. slice_get cs n ≡ Some next.coverage) here is));
}

-- a coverage is appended, or memory runs out
pub nexts_appended : (done : Bool) (cs more : List Coverage) (c : Coverage) (ts : List Subtable)
    → more ≡ (if done then cs ++ (c ∷ []) else cs) → All (IsNextOf cs) ts → All (IsNextOf more) ts
nexts_appended true cs more c ts is are = rw is (nexts_more cs c ts are)
nexts_appended false cs more c ts is are = rw is are

-- so is a subtable
pub nexts_pushed : (done : Bool) (cs : List Coverage) (ts more : List Subtable) (t : Subtable)
    → more ≡ (if done then ts ++ (t ∷ []) else ts) → IsNextOf cs t → All (IsNextOf cs) ts → All (IsNextOf cs) more
nexts_pushed true cs ts more t is has are = rw is (All-push (IsNextOf cs) ts t are has)
nexts_pushed false cs ts more t is has are = rw is are

-- a coverage that was read
pub slice_get-read : (cs read : List Coverage) (at : ℕ) (x y : Coverage) → read ≡ cs → at < length read
    → x ≡ get_or read at x → y ≡ x → slice_get cs at ≡ Some y
slice_get-read cs read at x y same less is that =
    rw that (subst (λ l. slice_get l at ≡ Some x) same (slice_get_read read (length read) at x refl less is))

-- its place
pub next_at_place : (at first b i m x y n : ℕ) → at ≡ min (first + (x + y)) 18446744073709551615 → at < n
    → n < 18446744073709551616 → x ≡ b → y ≡ m → m ≡ min i 1 → at ≡ first + (b + min i 1)
next_at_place at first b i m x y n is less short same that least = omega (arith, is, less, short, same, that, least)

-- what a new subtable asks for
pub next_of_asked : (cs after : List Coverage) (first : ℕ) (chained : Bool) (table : List ℕ) (asked : Option NextAsked)
    → after ≡ cs → IfSome asked (IsNextAt cs first chained table)
    → (next : NextAsked) → asked ≡ Some next → IsNextAt after first chained table next
next_of_asked cs after first chained table None same is next has = cc
next_of_asked cs after first chained table (Some n) same is next has =
    let e : n ≡ next = cc in
    subst (λ l. IsNextAt l first chained table next) (sym same) (subst (λ x. IsNextAt cs first chained table x) e is)
