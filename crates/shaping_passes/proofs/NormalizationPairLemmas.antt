-- A pair is composed by calls in the storage of the input: both sides are merged, and the second character leaves.
use Rattle.std.proofs.Common.{◌≡◌, ℕ, ◌+◌, ◌-◌, ◌<◌, ◌≤◌, inl, inr, Bool, true, false, List, [], ◌∷◌}
use Rattle.std.proofs.Common.{◌++◌, ◌||◌, length, get_or, take, drop, set, refl, sym, ap, ◌∙◌, subst, cond, ltb}
use Rattle.std.proofs.Common.{leb, Result, Ok, Err, arith, length-append, length-drop, length-take}
use Rattle.std.proofs.Common.{append_assoc, length-set}
use Rattle.std.proofs.lemmas.Bool.{cond_both, cond-true, cond-false, cases_eq, false≢true, le-leb}
use Rattle.std.proofs.lemmas.Bool.{lt-leb, le-ltb, or_from}
use Rattle.std.proofs.lemmas.List.{take-append-drop, drop-drop, take_at, drop_at, drop_more}
use Rattle.std.proofs.lemmas.List.{get_or-map, map-append, take-map, drop-map, length-map, map-set}
use Rattle.std.proofs.lemmas.List.{get_or-set_same, get_or-set_other, set-append_left}
use Rattle.std.proofs.lemmas.List.{get_or_append_left, length-take-le}
use Rattle.std.proofs.lemmas.List.{get_or-take, get_or_default}
use Rattle.std.specs.declared.alloc.AllocError.{AllocError}
use Rattle.rb_glyph.specs.declared.info.hb_glyph_info_t.{hb_glyph_info_t}
use Rattle.glyph_lists.specs.Clusters.{zero_glyph, run_merge, IsCoarse, IsMonotone}
use Rattle.glyph_lists.proofs.MergesLemmas.{length-run_merge}
use Rattle.glyph_laws.proofs.ReadingsLemmas.{Reading, coarse_reading, monotone_reading, reading_dropped, reading_alike}
use Rattle.glyph_laws.proofs.OrderLemmas.{run_merge_keeps_coarse, run_merge_keeps_order}
use Rattle.shaping_buffer.specs.State.{State, lookahead_len}
use Rattle.shaping_buffer.specs.ClusterStep.{any_order, both, head_of, merge_out_clusters}
use Rattle.shaping_buffer.specs.Step.{Outcome, Meets, settled, move_to, skip_glyph, split_at, with_id, last_place}
use Rattle.glyph_laws.specs.Cores.{core, cores}
use Rattle.shaping_passes.specs.NormalizationComposition.{IsReady}
use Rattle.shaping_passes.specs.NormalizationComposition.{kept_one, pair_composed}
use Rattle.glyph_laws.proofs.CoresLemmas.{cores-run_merge}

abbrev pub Glyphs : Type 0
Glyphs = List hb_glyph_info_t

-- the glyph at the cursor
pub head_now : (s : State) (g : hb_glyph_info_t) → s.have_output ≡ true → 0 < length s.input
    → g ≡ get_or s.input (cond s.have_output 0 (s.idx + 0)) g → g ≡ head_of s
head_now s g opened some at =
    at ∙ ap (λ k. get_or s.input k g) (cond-true _ _ _ opened) ∙ get_or_default s.input 0 g zero_glyph some

-- ---- another id

-- another id changes nothing that an order reads
reading_renamed : (l r : Glyphs) (at id : ℕ) → at < length l
    → Reading (l ++ r) (set l at (with_id id (get_or l at zero_glyph)) ++ r)
reading_renamed l r at id in_l =
    let g = with_id id (get_or l at zero_glyph) in
    let new = set (l ++ r) at g in
    let whole = length-append l r in
    let here : get_or (l ++ r) at zero_glyph ≡ get_or l at zero_glyph = get_or_append_left l r zero_glyph at in_l in
    let same : (f : hb_glyph_info_t → ℕ) → f g ≡ f (get_or l at zero_glyph) → (j : ℕ)
    → f (get_or new j zero_glyph) ≡ f (get_or (l ++ r) j zero_glyph) = λ f keeps j. elim (cases_eq j at) [
      | inl e ↦ ap (λ k. f (get_or new k zero_glyph)) e
          ∙ ap f (get_or-set_same (l ++ r) at g zero_glyph (omega arith)) ∙ keeps ∙ ap f (sym here)
          ∙ ap (λ k. f (get_or (l ++ r) k zero_glyph)) (sym e)
      | inr ne ↦ ap f (get_or-set_other (l ++ r) at j g zero_glyph ne)
    ] in
    subst (Reading (l ++ r)) (set-append_left l r at g in_l)
    (reading_alike (l ++ r) new (length-set (l ++ r) at g) (λ j _. same (λ x. x.cluster) refl j)
    (λ j _. same (λ x. x.var2) refl j))

coarse_renamed : (l r : Glyphs) (at id : ℕ) → at < length l → IsCoarse (l ++ r)
    → IsCoarse (set l at (with_id id (get_or l at zero_glyph)) ++ r)
coarse_renamed l r at id in_l co = coarse_reading (l ++ r) _ (reading_renamed l r at id in_l) co

cores-renamed : (l : Glyphs) (at id : ℕ) → at < length l
    → cores (set l at (with_id id (get_or l at zero_glyph)))
    ≡ set (cores l) at (with_id id (get_or (cores l) at zero_glyph))
cores-renamed l at id in_l =
    map-set core l at (with_id id (get_or l at zero_glyph))
    ∙ ap (λ g. set (cores l) at (with_id id g)) (sym (get_or-map core l at zero_glyph zero_glyph in_l))

-- all but the two sides and the cursor
framed : (s t : State) (out input : Glyphs) → t ≡ record s { out = out; input = input; idx = s.idx + 1 }
    → t ≡ record s { out = t.out; input = t.input; idx = s.idx + 1 }
framed s t out input e =
    e ∙ sym (ap (λ (x : State). record s { out = x.out; input = x.input; idx = s.idx + 1 }) e)

-- ---- calls in place

pub take_first : (l : Glyphs) → 0 < length l → take 1 l ≡ get_or l 0 zero_glyph ∷ []
take_first [] some = absurd (omega arith)
take_first (g ∷ l) some = refl

-- while no output is separate, before or after, memory does not run out
pub never_wants : (a b : Bool) → a ≡ false → b ≡ false → (a || b) ≡ true → ⊥
never_wants a b none none2 wants = false≢true (sym (or_from a b none none2) ∙ wants)

module _ (s : State) (ready : IsReady s) (some : 0 < length s.input) where
  held-kept : length (s.out ++ take 1 s.input) ≡ length s.out + 1
  held-kept = omega (arith, length-append s.out (take 1 s.input), length-take 1 s.input)

  both_kept : both (kept_one s) ≡ both s
  both_kept =
      append_assoc s.out (take 1 s.input) (drop 1 s.input)
      ∙ ap (λ (l : Glyphs). s.out ++ l) (take-append-drop 1 s.input)

  -- ---- a pair

  module _ (at : ℕ) (place : at < length s.out) where
    abbrev pub n : ℕ
    n = length s.out

    -- both sides, merged from the starter up to the character
    abbrev pub merged : Glyphs
    merged = cond (any_order s) (both (kept_one s)) (run_merge (both (kept_one s)) at (n + 1) 0)

    abbrev pub two : State
    two = merge_out_clusters at (n + 1) (kept_one s)

    length-both : length (both s) ≡ n + length s.input
    length-both = length-append s.out s.input

    pub length-merged : length merged ≡ n + length s.input
    length-merged =
        cond_both (any_order s) _ _ (λ (l : Glyphs). length l ≡ n + length s.input)
        (λ _. ap length both_kept ∙ length-both)
        (λ _. length-run_merge (both (kept_one s)) at (n + 1) 0 ∙ ap length both_kept ∙ length-both)

    cores-merged : cores merged ≡ cores s.out ++ cores s.input
    cores-merged =
        cond_both (any_order s) _ _ (λ (l : Glyphs). cores l ≡ cores s.out ++ cores s.input)
        (λ _. ap cores both_kept ∙ map-append core s.out s.input)
        (λ _. cores-run_merge (both (kept_one s)) at (n + 1) 0 (omega arith) ∙ ap cores both_kept
        ∙ map-append core s.out s.input)

    coarse-merged : any_order s ≡ false → IsCoarse (both s) → IsCoarse merged
    coarse-merged level co =
        cond_both (any_order s) _ _ IsCoarse (λ t. absurd (false≢true (sym level ∙ t)))
        (λ _. run_merge_keeps_coarse (both (kept_one s)) at (n + 1)
        (omega (arith, ap length both_kept, length-both)) (subst IsCoarse (sym both_kept) co))

    -- the character leaves the list
    abbrev pub after_pair : State
    after_pair = record s { out = take n merged; input = drop (n + 1) merged; idx = s.idx + 1 }

    long : length (kept_one s).out ≡ n + 1
    long = held-kept

    pub out_long : length two.out ≡ n + 1
    out_long = omega (arith, length-take (length (kept_one s).out) merged, long, length-merged)

    joined : two.out ++ two.input ≡ merged
    joined = take-append-drop (length (kept_one s).out) merged

    abbrev back : State
    back = split_at n two

    back_is : settled back ≡ record s { out = take n merged; input = drop n merged }
    back_is =
        let i : s.idx + 1 + (n - length two.out) - (length two.out - n) ≡ s.idx = omega (arith, out_long) in
        let F : Glyphs → ℕ → Bool → State = λ l k b. record s {
          out = take n l;
          input = drop n l;
          idx = k;
          have_separate_output = b;
        } in
        let b : (s.have_separate_output || ltb s.idx (length (take n merged))) ≡ s.have_separate_output =
        or_from _ _ ready.in_place (le-ltb s.idx (length (take n merged))
        (omega (arith, length-take n merged, ready.near))) ∙ sym ready.in_place in
        ap (λ l. F l (s.idx + 1 + (n - length two.out) - (length two.out - n))
        (s.have_separate_output || ltb (s.idx + 1 + (n - length two.out) - (length two.out - n)) (length (take n l))))
        joined
        ∙ ap (λ k. F merged k (s.have_separate_output || ltb k (length (take n merged)))) i
        ∙ ap (F merged s.idx) b

    moved_is : move_to n two ≡ record { done = true; state = record s { out = take n merged; input = drop n merged } }
    moved_is =
        let held : length back.input ≤ s.max_len =
        omega (arith, ap (λ l. length (drop n l)) joined, length-drop n merged, length-merged, ready.within) in
        cond-true _ _ _ ready.opened ∙ cond-true _ _ _ ready.successful
        ∙ ap (λ k. cond (leb k s.max_len) (record { done = true; state = settled back })
        (record { done = false; state = record two { successful = false } }))
        (cond-false _ _ _ (lt-leb (length two.out) n (omega (arith, out_long))))
        ∙ cond-true _ _ _ (le-leb (length back.input) s.max_len held)
        ∙ ap (λ (t : State). record { done = true; state = t }) back_is

    moved_back : (r : Result Bool AllocError) (new : State) → Meets (move_to n two) two r new
        → new ≡ record s { out = take n merged; input = drop n merged }
    moved_back (Ok done) new meets = meets.1 ∙ ap (λ (o : Outcome). o.state) moved_is
    moved_back (Err e) new meets =
        absurd (never_wants s.have_separate_output _ ready.in_place
        (ap (λ (o : Outcome). o.state.have_separate_output) moved_is ∙ ready.in_place) meets.0.1)

    skipped : skip_glyph (record s { out = take n merged; input = drop n merged }) ≡ after_pair
    skipped =
        ap (λ b. record s {
          out = take n merged;
          input = cond b (drop 1 (drop n merged)) (drop n merged);
          idx = s.idx + 1;
        }) ready.opened
        ∙ ap (λ l. record s { out = take n merged; input = l; idx = s.idx + 1 }) (drop-drop 1 n merged)

    length-left : length (take n merged) ≡ n
    length-left = length-take-le n merged (omega (arith, length-merged))

    cores-left : cores (take n merged) ≡ cores s.out
    cores-left =
        sym (take-map core n merged) ∙ ap (take n) cores-merged
        ∙ take_at (cores s.out) (cores s.input) n (length-map s.out core)

    cores-rest : cores (drop (n + 1) merged) ≡ drop 1 (cores s.input)
    cores-rest =
        sym (drop-map core (n + 1) merged) ∙ sym (drop-drop 1 n (cores merged))
        ∙ ap (λ l. drop 1 (drop n l)) cores-merged
        ∙ ap (drop 1) (drop_at (cores s.out) (cores s.input) n (length-map s.out core))

    coarse_pair : any_order s ≡ false → IsCoarse (both s) → IsCoarse (take n merged ++ drop (n + 1) merged)
    coarse_pair level co =
        let whole : merged ≡ take n merged ++ get_or merged n zero_glyph ∷ drop (n + 1) merged =
        sym (take-append-drop n merged)
        ∙ ap (λ l. take n merged ++ l) (drop_more merged n zero_glyph (omega (arith, length-merged))) in
        coarse_reading _ _ (reading_dropped (take n merged) (get_or merged n zero_glyph) (drop (n + 1) merged))
        (subst IsCoarse whole (coarse-merged level co))

    -- what the pair leaves
    pub record IsPair (id : ℕ) (new : State) : Type 0 where
      pub out : cores new.out ≡ set (cores s.out) at (with_id id (get_or (cores s.out) at zero_glyph))
      pub input : cores new.input ≡ drop 1 (cores s.input)
      pub glyphs : both new ≡ pair_composed (any_order s) at n id (both s)
      pub merges : any_order s ≡ false → IsCoarse (both s) → IsCoarse (both new)
      pub others : new ≡ record s { out = new.out; input = new.input; idx = s.idx + 1 }

    -- the calls, one by one, and what the next one requires
    module _ (one t : State) (end : ℕ) (kept : one ≡ kept_one s) (ends : end ≡ length one.out)
        (merges : t ≡ merge_out_clusters at end one) where
      end_is : end ≡ n + 1
      end_is = ends ∙ ap (λ (x : State). length x.out) kept ∙ held-kept

      two_is : t ≡ two
      two_is = merges ∙ ap (λ k. merge_out_clusters at k one) end_is ∙ ap (merge_out_clusters at (n + 1)) kept

      pub goes_back : end - 1 ≤ last_place t
      goes_back =
          let e : last_place t ≡ length two.out + length two.input = ap last_place two_is ∙ cond-true _ _ _ ready.opened in
          omega (arith, end_is, out_long, e)

      module _ (u : State) (r : Result Bool AllocError) (meets : Meets (move_to (end - 1) t) t r u) where
        pub three_is : u ≡ record s { out = take n merged; input = drop n merged }
        three_is =
            let last : end - 1 ≡ n = omega (arith, end_is) in
            let P : State → Type 0 = λ x. Meets (move_to (end - 1) x) x r u in
            let Q : ℕ → Type 0 = λ k. Meets (move_to k two) two r u in
            moved_back r u (subst Q last (subst P two_is meets))

        pub left_back : 0 < lookahead_len u
        left_back =
            let e : lookahead_len u ≡ s.idx + length (drop n merged) - s.idx =
            ap lookahead_len three_is ∙ ap (λ k. k - s.idx) (cond-true _ _ _ ready.opened) in
            omega (arith, e, length-drop n merged, length-merged)

        module _ (v : State) (skips : v ≡ skip_glyph u) where
          four_is : v ≡ after_pair
          four_is = skips ∙ ap skip_glyph three_is ∙ skipped

          pub out_left : at < length v.out
          out_left = omega (arith, ap (λ (x : State). length x.out) four_is, length-left)

          pub pair_is : (id : ℕ) (new : State)
              → new ≡ record v { out = set v.out at (with_id id (get_or v.out at zero_glyph)) } → IsPair id new
          pair_is id new renames =
              let m = merged in
              let is : new
              ≡ record after_pair { out = set (take n m) at (with_id id (get_or (take n m) at zero_glyph)) } =
              renames ∙ ap (λ (x : State). record x { out = set x.out at (with_id id (get_or x.out at zero_glyph)) }) four_is in
              let in_l : at < length (take n m) = omega (arith, length-left) in
              record {
                out = ap (λ (x : State). cores x.out) is ∙ cores-renamed (take n m) at id in_l
                    ∙ ap (λ (l : Glyphs). set l at (with_id id (get_or l at zero_glyph))) cores-left;
                input = ap (λ (x : State). cores x.input) is ∙ cores-rest;
                glyphs = ap both is
                    ∙ ap (λ g. set (take n m) at (with_id id g) ++ drop (n + 1) m) (get_or-take n m at zero_glyph place)
                    ∙ ap (λ l. pair_composed (any_order s) at n id l) both_kept;
                merges = λ level co. subst IsCoarse (sym (ap both is))
                    (coarse_renamed (take n m) (drop (n + 1) m) at id in_l (coarse_pair level co));
                others = framed s new _ _ is;
              }

-- a pair that is composed keeps the order of clusters
pub order_composed : (any : Bool) (at n id : ℕ) (l : Glyphs) → at < n → n < length l → IsMonotone l
    → IsMonotone (pair_composed any at n id l)
order_composed any at n id l place in_l mono =
    let m = cond any l (run_merge l at (n + 1) 0) in
    let size : length m ≡ length l =
    cond_both any _ _ (λ (x : Glyphs). length x ≡ length l) (λ _. refl) (λ _. length-run_merge l at (n + 1) 0) in
    let merged : IsMonotone m =
    cond_both any _ _ IsMonotone (λ _. mono) (λ _. run_merge_keeps_order l at (n + 1) 0 (omega arith) mono) in
    let whole : m ≡ take n m ++ get_or m n zero_glyph ∷ drop (n + 1) m =
    sym (take-append-drop n m) ∙ ap (λ (x : Glyphs). take n m ++ x) (drop_more m n zero_glyph (omega (arith, size))) in
    let dropped : IsMonotone (take n m ++ drop (n + 1) m) =
    monotone_reading _ _ (reading_dropped (take n m) (get_or m n zero_glyph) (drop (n + 1) m)) (subst IsMonotone whole merged) in
    subst (λ (g : hb_glyph_info_t). IsMonotone (set (take n m) at (with_id id g) ++ drop (n + 1) m))
    (get_or-take n m at zero_glyph place)
    (monotone_reading _ _
    (reading_renamed (take n m) (drop (n + 1) m) at id (omega (arith, length-take-le n m (omega (arith, size)))))
    dropped)

pub length_composed : (any : Bool) (at n id : ℕ) (l : Glyphs) → at < n → n < length l
    → length (pair_composed any at n id l) ≡ length l - 1
length_composed any at n id l place in_l =
    let m = cond any l (run_merge l at (n + 1) 0) in
    let size : length m ≡ length l =
    cond_both any _ _ (λ (x : Glyphs). length x ≡ length l) (λ _. refl) (λ _. length-run_merge l at (n + 1) 0) in
    let g = with_id id (get_or m at zero_glyph) in
    omega (
      arith,
      length-append (set (take n m) at g) (drop (n + 1) m),
      length-set (take n m) at g,
      length-take n m,
      length-drop (n + 1) m,
      size,
    )
