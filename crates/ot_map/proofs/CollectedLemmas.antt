-- Lookups that are collected, feature by feature and stage by stage.
use Rattle.std.proofs.Common.{◌≡◌, inl, inr, ℕ, zero, suc, ◌+◌, ◌-◌, ◌<◌, ◌≤◌, min, List, [], ◌∷◌, ◌++◌, length, get_or, map, take, drop, true, false, cond}
use Rattle.std.proofs.Common.{nat_lt, sym, ap, subst, arith, refl, ◌∙◌}
use Rattle.std.specs.List.{filter, flat_map, range_with_len}
use Rattle.std.proofs.lemmas.Bool.{cases_lt}
use Rattle.std.proofs.lemmas.List.{append_assoc, append-nil, drop_all, drop_more, length-append, length-take-le, take_all, take_more}
use Rattle.std.proofs.lemmas.List.Concat.{flat_map-append}
use Rattle.std.proofs.lemmas.List.Elements.{filter-append}
use Rattle.std.proofs.lemmas.List.FromFn.{filter_of_map_range_with_len_more, length-map-range_with_len, take-map-range_with_len}
use Rattle.ot_map.specs.Collecting.{AreStagesOf, CollectsBelow, MergesStage}
use Rattle.ot_map.specs.Lookups.{by_stage, in_order, stages_from, taken}
use Rattle.ot_map.specs.declared.builder.ChosenTable.{ChosenTable}
use Rattle.ot_map.specs.declared.plan.Pause.{Pause}
use Rattle.ot_map.specs.declared.plan.PlannedLookup.{PlannedLookup}
use Rattle.ot_map.specs.declared.plan.Stage.{Stage}

-- ---- the lookups of one feature

-- one more of a feature's lookups, of which those are kept that a table of so many has
pub kept_more : (count n : ℕ) (f : ℕ → PlannedLookup) (old now : List PlannedLookup) (x : PlannedLookup)
    → now ≡ old ++ filter (λ lookup. nat_lt lookup.index count) (map f (range_with_len 0 n)) → x ≡ f n → nat_lt (f n).index count ≡ true
    → now ++ x ∷ [] ≡ old ++ filter (λ lookup. nat_lt lookup.index count) (map f (range_with_len 0 (n + 1)))
kept_more count n f old now x before is passes =
    ap (λ l. l ++ x ∷ []) before
    ∙ append_assoc old (filter (λ lookup. nat_lt lookup.index count) (map f (range_with_len 0 n))) (x ∷ [])
    ∙ ap (λ y. old ++ (filter (λ lookup. nat_lt lookup.index count) (map f (range_with_len 0 n)) ++ y ∷ [])) is
    ∙ ap (λ c. old ++ (filter (λ lookup. nat_lt lookup.index count) (map f (range_with_len 0 n)) ++ cond c (f n ∷ []) [])) (sym passes)
    ∙ ap (λ l. old ++ l) (sym (filter_of_map_range_with_len_more (λ lookup. nat_lt lookup.index count) f 0 n n (omega arith)))

pub left_out : (count n : ℕ) (f : ℕ → PlannedLookup) (old now : List PlannedLookup)
    → now ≡ old ++ filter (λ lookup. nat_lt lookup.index count) (map f (range_with_len 0 n)) → nat_lt (f n).index count ≡ false
    → now ≡ old ++ filter (λ lookup. nat_lt lookup.index count) (map f (range_with_len 0 (n + 1)))
left_out count n f old now before fails =
    before
    ∙ ap (λ l. old ++ l)
    (sym (append-nil (filter (λ lookup. nat_lt lookup.index count) (map f (range_with_len 0 n))))
    ∙ ap (λ c. filter (λ lookup. nat_lt lookup.index count) (map f (range_with_len 0 n)) ++ cond c (f n ∷ []) []) (sym fails)
    ∙ sym (filter_of_map_range_with_len_more (λ lookup. nat_lt lookup.index count) f 0 n n (omega arith)))

taken_of_fn : (left n : ℕ) (f : ℕ → PlannedLookup) → take left (map f (range_with_len 0 n)) ≡ map f (range_with_len 0 (min n left))
taken_of_fn left n f =
    elim (cases_lt left n) [
      | inl less ↦
          let e : min n left ≡ left = omega (arith, less) in
          take-map-range_with_len f 0 n left (omega (arith, less)) ∙ ap (λ k. map f (range_with_len 0 k)) (sym e)
      | inr all ↦
          let e : min n left ≡ n = omega (arith, all) in
          let long = length-map-range_with_len f 0 n in
          take_all left (map f (range_with_len 0 n)) (omega (arith, all, long)) ∙ ap (λ k. map f (range_with_len 0 k)) (sym e)
    ]

-- as many as may be listed are there
pub CollectsBelow-all : (count left n i now_left : ℕ) (f : ℕ → PlannedLookup) (old now : List PlannedLookup) → i ≡ min n left → now_left + i ≡ left
    → now ≡ old ++ filter (λ lookup. nat_lt lookup.index count) (map f (range_with_len 0 i))
    → CollectsBelow count (map f (range_with_len 0 n)) old left now now_left
CollectsBelow-all count left n i now_left f old now most spent is =
    let long = length-map-range_with_len f 0 n in
    record {
      lookups = is
          ∙ ap (λ k. old ++ filter (λ lookup. nat_lt lookup.index count) (map f (range_with_len 0 k))) most
          ∙ ap (λ l. old ++ filter (λ lookup. nat_lt lookup.index count) l) (sym (taken_of_fn left n f));
      left = omega (arith, most, spent, long);
    }

-- ---- one list behind the other

take-append : {X : Type 0} (n : ℕ) (xs ys : List X) → take n (xs ++ ys) ≡ take n xs ++ take (n - length xs) ys
take-append n [] ys = let e : n - 0 ≡ n = omega arith in ap (λ k. take k ys) (sym e) ∙ ap (λ l. l ++ take (n - 0) ys) (sym (take-nothing n))
  where
    take-nothing : {X : Type 0} (n : ℕ) → take {A = X} n [] ≡ []
    take-nothing zero = refl
    take-nothing (suc n) = refl
take-append zero (x ∷ xs) ys = let e : 0 - length (x ∷ xs) ≡ 0 = omega arith in ap (λ k. take k ys) (sym e)
take-append (suc n) (x ∷ xs) ys =
    let e : suc n - length (x ∷ xs) ≡ n - length xs = omega arith in
    ap (λ l. x ∷ l) (take-append n xs ys) ∙ ap (λ k. x ∷ (take n xs ++ take k ys)) (sym e)

taken-append : (count left : ℕ) (xs ys : List PlannedLookup)
    → taken count left (xs ++ ys) ≡ taken count left xs ++ taken count (left - length xs) ys
taken-append count left xs ys =
    ap (filter (λ lookup. nat_lt lookup.index count)) (take-append left xs ys)
    ∙ filter-append (λ lookup. nat_lt lookup.index count) (take left xs) (take (left - length xs) ys)

taken-nothing : (count left : ℕ) → taken count left [] ≡ []
taken-nothing count zero = refl
taken-nothing count (suc left) = refl

pub CollectsBelow-nothing : (count left : ℕ) (old : List PlannedLookup) → CollectsBelow count [] old left old left
CollectsBelow-nothing count left old = record {
  lookups = sym (append-nil old) ∙ ap (λ l. old ++ l) (sym (taken-nothing count left));
  left = omega arith;
}

pub CollectsBelow-append : (count : ℕ) (xs ys old mid new : List PlannedLookup) (left mid_left new_left : ℕ)
    → CollectsBelow count xs old left mid mid_left → CollectsBelow count ys mid mid_left new new_left
    → CollectsBelow count (xs ++ ys) old left new new_left
CollectsBelow-append count xs ys old mid new left mid_left new_left first second =
    let long = length-append xs ys in
    let a = first.left in
    let b = second.left in
    record {
      lookups = second.lookups
          ∙ ap (λ l. l ++ taken count mid_left ys) first.lookups
          ∙ append_assoc old (taken count left xs) (taken count mid_left ys)
          ∙ ap (λ k. old ++ (taken count left xs ++ taken count k ys)) first.left
          ∙ ap (λ l. old ++ l) (sym (taken-append count left xs ys));
      left = omega (arith, a, b, long);
    }

-- the lookups of one more feature
pub CollectsBelow-more : {X : Type 0} (f : X → List PlannedLookup) (count i : ℕ) (xs : List X) (x : X) (old mid new : List PlannedLookup)
    (left mid_left new_left : ℕ) → i < length xs → x ≡ get_or xs i x
    → CollectsBelow count (flat_map f (take i xs)) old left mid mid_left → CollectsBelow count (f x) mid mid_left new new_left
    → CollectsBelow count (flat_map f (take (i + 1) xs)) old left new new_left
CollectsBelow-more f count i xs x old mid new left mid_left new_left within is first second =
    let e : flat_map f (take (i + 1) xs) ≡ flat_map f (take i xs) ++ f x =
    ap (flat_map f) (take_more xs i x within) ∙ flat_map-append f (take i xs) (get_or xs i x ∷ [])
    ∙ ap (λ l. flat_map f (take i xs) ++ l) (append-nil (f (get_or xs i x)))
    ∙ ap (λ y. flat_map f (take i xs) ++ f y) (sym is) in
    subst (λ l. CollectsBelow count l old left new new_left) (sym e)
    (CollectsBelow-append count (flat_map f (take i xs)) (f x) old mid new left mid_left new_left first second)

-- ---- the stages

-- what is still to come of the stages from one on, behind those before
pub record IsInStage (gsub : ChosenTable) (lists : ℕ → List PlannedLookup) (pauses : List Pause) (all : List (List PlannedLookup))
    (so_far : List PlannedLookup) (ends : List Stage) (left stage : ℕ) : Type 0 where
  pub lookups : so_far ++ flat_map (λ l. l) (by_stage gsub lists left stage (drop stage pauses)) ≡ flat_map (λ l. l) all
  pub stages : ends ++ stages_from (length so_far) (by_stage gsub lists left stage (drop stage pauses)) (drop stage pauses)
      ≡ stages_from 0 all pauses

pub IsInStage-begin : (gsub : ChosenTable) (lists : ℕ → List PlannedLookup) (pauses : List Pause) (left all_left : ℕ)
    (lookups : List PlannedLookup) (stages : List Stage) → lookups ≡ [] → stages ≡ [] → all_left ≡ left
    → IsInStage gsub lists pauses (by_stage gsub lists left 0 pauses) lookups stages all_left 0
IsInStage-begin gsub lists pauses left all_left lookups stages none no_stage whole =
    rw (none, no_stage, whole) (record { lookups = refl; stages = refl })

pub IsInStage-next : (gsub : ChosenTable) (lists : ℕ → List PlannedLookup) (pauses : List Pause) (all : List (List PlannedLookup))
    (before after : List PlannedLookup) (stages new_stages : List Stage) (left new_left stage end : ℕ) (d : Pause)
    → stage < length pauses → MergesStage gsub (lists stage) before left after new_left → end ≡ length after
    → new_stages ≡ stages ++ record { end = end; pause = get_or pauses stage d } ∷ []
    → IsInStage gsub lists pauses all before stages left stage
    → IsInStage gsub lists pauses all after new_stages new_left (stage + 1)
IsInStage-next gsub lists pauses all before after stages new_stages left new_left stage end d within merged here pushed rest =
    let next = drop_more pauses stage d within in
    let new = merged.lookups in
    let less = merged.left in
    let long : length after ≡ length before + length (in_order (taken gsub.lists.lookup_count left (lists stage))) =
    ap length new ∙ length-append before (in_order (taken gsub.lists.lookup_count left (lists stage))) in
    let opened = rw next at rest.lookups in
    let marked = rw next at rest.stages in
    record {
      lookups =
          ap (λ l. l ++ flat_map (λ m. m) (by_stage gsub lists new_left (stage + 1) (drop (stage + 1) pauses))) new
          ∙ ap (λ n. (before ++ in_order (taken gsub.lists.lookup_count left (lists stage)))
          ++ flat_map (λ m. m) (by_stage gsub lists n (stage + 1) (drop (stage + 1) pauses))) less
          ∙ append_assoc before (in_order (taken gsub.lists.lookup_count left (lists stage)))
          (flat_map (λ m. m) (by_stage gsub lists (left - length (lists stage)) (stage + 1) (drop (stage + 1) pauses)))
          ∙ opened;
      stages =
          ap (λ l. l ++ stages_from (length after) (by_stage gsub lists new_left (stage + 1) (drop (stage + 1) pauses)) (drop (stage + 1) pauses))
          pushed
          ∙ ap (λ n. (stages ++ record { end = n; pause = get_or pauses stage d } ∷ [])
          ++ stages_from (length after) (by_stage gsub lists new_left (stage + 1) (drop (stage + 1) pauses)) (drop (stage + 1) pauses)) here
          ∙ ap (λ n. (stages ++ record { end = n; pause = get_or pauses stage d } ∷ [])
          ++ stages_from n (by_stage gsub lists new_left (stage + 1) (drop (stage + 1) pauses)) (drop (stage + 1) pauses)) long
          ∙ ap (λ n. (stages ++ record {
            end = length before + length (in_order (taken gsub.lists.lookup_count left (lists stage)));
            pause = get_or pauses stage d;
          } ∷ [])
          ++ stages_from (length before + length (in_order (taken gsub.lists.lookup_count left (lists stage))))
          (by_stage gsub lists n (stage + 1) (drop (stage + 1) pauses)) (drop (stage + 1) pauses)) less
          ∙ append_assoc stages
          (record {
            end = length before + length (in_order (taken gsub.lists.lookup_count left (lists stage)));
            pause = get_or pauses stage d;
          } ∷ [])
          (stages_from (length before + length (in_order (taken gsub.lists.lookup_count left (lists stage))))
          (by_stage gsub lists (left - length (lists stage)) (stage + 1) (drop (stage + 1) pauses)) (drop (stage + 1) pauses))
          ∙ marked;
    }

pub IsInStage-end : (gsub : ChosenTable) (lists : ℕ → List PlannedLookup) (pauses : List Pause) (all : List (List PlannedLookup))
    (lookups : List PlannedLookup) (stages : List Stage) (left stage : ℕ) → length pauses ≤ stage
    → IsInStage gsub lists pauses all lookups stages left stage → AreStagesOf all pauses lookups stages
IsInStage-end gsub lists pauses all lookups stages left stage end rest =
    let none = drop_all stage pauses end in
    record {
      lookups = sym (append-nil lookups) ∙ (rw none at rest.lookups);
      stages = sym (append-nil stages) ∙ (rw none at rest.stages);
    }

-- ---- the lookups of a stage are put in order

pub taken_behind : {X : Type 0} (a n : ℕ) (l m : List X) → a ≤ length l → take (a + n) (take a l ++ m) ≡ take a l ++ take n m
taken_behind a n l m within =
    let long = length-take-le a l within in
    let some : a + n - length (take a l) ≡ n = omega (arith, long) in
    take-append (a + n) (take a l) m
    ∙ ap (λ x. x ++ take (a + n - length (take a l)) m) (take_all (a + n) (take a l) (omega (arith, long)))
    ∙ ap (λ k. take a l ++ take k m) some

take-whole : {X : Type 0} (xs ys : List X) → take (length xs) (xs ++ ys) ≡ xs
take-whole [] ys = refl
take-whole (x ∷ xs) ys = ap (λ l. x ∷ l) (take-whole xs ys)

drop-whole : {X : Type 0} (xs ys : List X) → drop (length xs) (xs ++ ys) ≡ ys
drop-whole [] ys = refl
drop-whole (x ∷ xs) ys = drop-whole xs ys

-- what was collected behind the lookups before is put in order
pub MergesStage-from : (table : ChosenTable) (listed before mid new : List PlannedLookup) (left mid_left new_left start : ℕ)
    → start ≡ length before → CollectsBelow table.lists.lookup_count listed before left mid mid_left
    → new ≡ take start mid ++ in_order (drop start mid) → new_left ≡ mid_left → MergesStage table listed before left new new_left
MergesStage-from table listed before mid new left mid_left new_left start whole collected merged same = record {
  lookups = merged
      ∙ ap (λ l. take start l ++ in_order (drop start l)) collected.lookups
      ∙ ap (λ n. take n (before ++ taken table.lists.lookup_count left listed)
      ++ in_order (drop n (before ++ taken table.lists.lookup_count left listed))) whole
      ∙ ap (λ l. l ++ in_order (drop (length before) (before ++ taken table.lists.lookup_count left listed)))
      (take-whole before (taken table.lists.lookup_count left listed))
      ∙ ap (λ l. before ++ in_order l) (drop-whole before (taken table.lists.lookup_count left listed));
  left = same ∙ collected.left;
}

pub longer : (count : ℕ) (listed before mid : List PlannedLookup) (left mid_left : ℕ) → CollectsBelow count listed before left mid mid_left
    → length before ≤ length mid
longer count listed before mid left mid_left collected =
    let long = ap length collected.lookups ∙ length-append before (taken count left listed) in
    omega (arith, long)

pub ruleset collects = (kept_more, left_out, CollectsBelow-all, CollectsBelow-nothing, CollectsBelow-append, CollectsBelow-more)
