-- Which cluster numbers stand after a merge or a deletion, in any order of clusters: none is new, and the least stays.
use Rattle.std.proofs.Common.{◌≡◌, ℕ, zero, suc, ◌+◌, ◌-◌, ◌<◌, ◌≤◌, ◌⊎◌, inl, inr, List, [], ◌∷◌, ◌++◌, length, get_or}
use Rattle.std.proofs.Common.{drop, refl, sym, ap, ◌∙◌, subst, arith, eqb, Bool, true, false, not, ◌&&◌, ◌||◌}
use Rattle.std.proofs.Common.{length-append, length-drop}
use Rattle.std.proofs.lemmas.List.{get_or_append_left, get_or-append-add, get_or-append_right, get_or-drop}
use Rattle.std.proofs.lemmas.Bool.{cases_lt, cond_both, cond-true, le-leb, eqb-true, eqb-false, ltb-true, ltb-false}
use Rattle.std.proofs.lemmas.Bool.{cases_Bool, or_cases, and_parts}
use Rattle.rb_glyph.specs.declared.info.hb_glyph_info_t.{hb_glyph_info_t}
use Rattle.glyph_lists.specs.Parts.{map_range}
use Rattle.glyph_lists.specs.Clusters.{clusters, occurs, least, with_cluster, run_merge, run_start, range_least}
use Rattle.glyph_lists.specs.Clusters.{widened_start, widened_end, zero_glyph}
use Rattle.glyph_lists.proofs.DeletionCases.{length_some, lowers_parts, merges_parts}
use Rattle.glyph_lists.specs.Deletion.{OutAndRest, merge_or_mark, deletion, with_trailing_run, last_cluster, begins_with}
use Rattle.glyph_lists.specs.Deletion.{is_not_empty, has_neighbour_in, lowers_run, merges_next}
use Rattle.glyph_lists.proofs.PartsLemmas.{length-map_range, map_range-before, map_range-within}
use Rattle.glyph_lists.proofs.ClustersLemmas.{get_or-clusters, length-clusters, occurs_at, occurs_place, least-le}
use Rattle.glyph_lists.proofs.ClustersLemmas.{least-stands, least_is, range_least-le, range_least-stands}
use Rattle.glyph_lists.proofs.RunsLemmas.{run_start-le, get_or-run_start, run_start_more, get_or-run_end}
use Rattle.glyph_lists.proofs.RunsLemmas.{widened_start-le}
use Rattle.glyph_lists.proofs.RunsLemmas.{widened_end-ge, widened_start_plain, widened_start_run, widened_end_plain}
use Rattle.glyph_lists.proofs.RunsLemmas.{widened_end_run}
use Rattle.glyph_lists.proofs.MergesLemmas.{cluster-with_cluster, run_merge_outside, run_merge_inside, run_merge_short}
use Rattle.glyph_lists.proofs.MergesLemmas.{length-run_merge}
use Rattle.glyph_laws.proofs.ReadingsLemmas.{at, Reading}
use Rattle.glyph_laws.proofs.DeletionLemmas.{merge_or_mark_keeps, deletion_keeps}

-- a glyph of cluster c stands in the list
abbrev pub Stands : ℕ → List hb_glyph_info_t → Type 0
Stands c l = (k : ℕ) × (k < length l) × ((at l k).cluster ≡ c)

-- a number that occurs stands, and the other way round
pub Stands-from_occurs : (c : ℕ) (l : List hb_glyph_info_t) → occurs c (clusters l) ≡ true → Stands c l
Stands-from_occurs c l on =
    let w = occurs_place c (clusters l) on in
    let n = length-clusters l in
    (w.0, omega (arith, w.1), sym (get_or-clusters l w.0 zero_glyph (omega (arith, w.1))) ∙ w.2)

pub occurs-from_stands : (c : ℕ) (l : List hb_glyph_info_t) → Stands c l → occurs c (clusters l) ≡ true
occurs-from_stands c l w =
    let n = length-clusters l in
    occurs_at c (clusters l) w.0 (omega (arith, w.1)) (get_or-clusters l w.0 zero_glyph w.1 ∙ w.2)

-- c is the least cluster: it stands in the list, and none is less
pub record IsLeast (c : ℕ) (l : List hb_glyph_info_t) : Type 0 where
  pub stands : Stands c l
  pub low : (k : ℕ) → k < length l → c ≤ (at l k).cluster

-- the least number of a list that has some is its least cluster, and the other way round
pub IsLeast-least : (l : List hb_glyph_info_t) → 0 < length l → IsLeast (least (clusters l)) l
IsLeast-least l some =
    let n = length-clusters l in
    let w = least-stands (clusters l) (omega arith) in
    record {
      stands = (w.0, omega (arith, w.1), sym (get_or-clusters l w.0 zero_glyph (omega (arith, w.1))) ∙ w.2);
      low = λ k h. omega (arith, least-le (clusters l) k (omega arith), get_or-clusters l k zero_glyph h);
    }

pub least-from_IsLeast : (c : ℕ) (l : List hb_glyph_info_t) → IsLeast c l → least (clusters l) ≡ c
least-from_IsLeast c l h =
    let n = length-clusters l in
    let w = h.stands in
    least_is (clusters l) w.0 c (omega (arith, w.1)) (get_or-clusters l w.0 zero_glyph w.1 ∙ w.2)
    (λ j lt. omega (arith, h.low j (omega arith), get_or-clusters l j zero_glyph (omega arith)))

-- ---- run merges

-- no number of the widened range is below the least of the range
module _ (cs : List ℕ) (p q floor : ℕ) (some : p < q) (in_l : q ≤ length cs) where
  abbrev m : ℕ
  m = range_least cs p q

  widened-le : (k : ℕ) → widened_start cs p q floor ≤ k → k < widened_end cs p q → m ≤ get_or cs k 0
  widened-le k from before =
      elim (cases_lt k p) [
        | inl lt ↦ elim (cases_Bool (eqb (get_or cs p 0) m)) [
          | inl e ↦ absurd (omega (arith, widened_start_plain cs p q floor (eqb-true _ _ e)))
          | inr e ↦
              let run : get_or cs k 0 ≡ get_or cs p 0 = get_or-run_start cs (get_or cs p 0) floor p k (omega arith)
              (omega (arith, widened_start_run cs p q floor (eqb-false _ _ e))) lt in
              omega (arith, run, range_least-le cs p q in_l p (omega arith) some)
        ]
        | inr ge ↦ elim (cases_lt k q) [
          | inl lt ↦ range_least-le cs p q in_l k ge lt
          | inr ge2 ↦ elim (cases_Bool (eqb (get_or cs (q - 1) 0) m)) [
            | inl e ↦ absurd (omega (arith, widened_end_plain cs p q (eqb-true _ _ e)))
            | inr e ↦
                let run : get_or cs k 0 ≡ get_or cs (q - 1) 0 =
                get_or-run_end cs (get_or cs (q - 1) 0) q k ge2
                (omega (arith, widened_end_run cs p q (eqb-false _ _ e))) in
                omega (arith, run, range_least-le cs p q in_l (q - 1) (omega arith) (omega arith))
          ]
        ]
      ]

-- what stands after a run merge stood before, and the least still stands
module _ (l : List hb_glyph_info_t) (p q floor : ℕ) (some : p < q) (in_l : q ≤ length l) where
  abbrev cs : List ℕ
  cs = clusters l

  abbrev merged_l : List hb_glyph_info_t
  merged_l = run_merge l p q floor

  range_stands : Stands (range_least cs p q) l
  range_stands =
      let n = length-clusters l in
      let w = range_least-stands cs p q (omega arith) some in
      (w.0, omega (arith, w.2), sym (get_or-clusters l w.0 zero_glyph (omega (arith, w.2))) ∙ w.3)

  pub stands_before_merge : (c : ℕ) → Stands c merged_l → Stands c l
  stands_before_merge c w =
      let k = w.0 in
      let in_l2 : k < length l = omega (arith, w.1, length-run_merge l p q floor) in
      let same : at merged_l k ≡ at l k → Stands c l = λ e. (k, in_l2, sym (ap (λ g. g.cluster) e) ∙ w.2) in
      elim (cases_lt k (widened_start cs p q floor)) [
        | inl lt ↦ same (run_merge_outside l p q floor some k in_l2 (inl lt))
        | inr ge ↦ elim (cases_lt k (widened_end cs p q)) [
          | inl lt ↦ subst (λ d. Stands d l) (sym (run_merge_inside l p q floor some k in_l2 ge lt) ∙ w.2) range_stands
          | inr ge2 ↦ same (run_merge_outside l p q floor some k in_l2 (inr ge2))
        ]
      ]

  pub least_stands_after_merge : (c : ℕ) → IsLeast c l → Stands c merged_l
  least_stands_after_merge c least_is_c =
      let w = least_is_c.stands in
      let k = w.0 in
      let h : k < length l = w.1 in
      let n = length-clusters l in
      let k_in : k < length merged_l = omega (arith, h, length-run_merge l p q floor) in
      let same : at merged_l k ≡ at l k → Stands c merged_l = λ e. (k, k_in, ap (λ g. g.cluster) e ∙ w.2) in
      elim (cases_lt k (widened_start cs p q floor)) [
        | inl lt ↦ same (run_merge_outside l p q floor some k h (inl lt))
        | inr ge ↦ elim (cases_lt k (widened_end cs p q)) [
          | inl lt ↦
              let r = range_stands in
              let is : range_least cs p q ≡ c = omega (
                arith,
                widened-le cs p q floor some (omega arith) k ge lt,
                get_or-clusters l k zero_glyph h,
                w.2,
                least_is_c.low r.0 r.1,
                r.2,
              ) in
              (k, k_in, run_merge_inside l p q floor some k h ge lt ∙ is)
          | inr ge2 ↦ same (run_merge_outside l p q floor some k h (inr ge2))
        ]
      ]

-- whatever the range
pub run_merge_stands : (l : List hb_glyph_info_t) (p q floor c : ℕ) → q ≤ length l → Stands c (run_merge l p q floor)
    → Stands c l
unfolding run_merge
run_merge_stands l p q floor c in_l w =
    elim (cases_lt p q) [
      | inl some ↦ stands_before_merge l p q floor some in_l c w
      | inr none ↦ subst (Stands c) (cond-true _ _ _ (le-leb q p none)) w
    ]

pub run_merge_keeps_IsLeast : (l : List hb_glyph_info_t) (p q floor c : ℕ) → q ≤ length l → IsLeast c l
    → IsLeast c (run_merge l p q floor)
unfolding run_merge
run_merge_keeps_IsLeast l p q floor c in_l h = record {
  stands = elim (cases_lt p q) [
    | inl some ↦ least_stands_after_merge l p q floor some in_l c h
    | inr none ↦ subst (Stands c) (sym (cond-true _ _ _ (le-leb q p none))) h.stands
  ];
  low = λ k lt. let w = run_merge_stands l p q floor (at (run_merge l p q floor) k).cluster in_l (k, lt, refl) in
      omega (arith, h.low w.0 w.1, w.2);
}

-- so the least number is the same
pub least-run_merge : (l : List hb_glyph_info_t) (p q floor : ℕ) → q ≤ length l
    → least (clusters (run_merge l p q floor)) ≡ least (clusters l)
least-run_merge l p q floor in_l =
    elim (cases_lt 0 (length l)) [
      | inl some ↦ least-from_IsLeast (least (clusters l)) (run_merge l p q floor)
          (run_merge_keeps_IsLeast l p q floor (least (clusters l)) in_l (IsLeast-least l some))
      | inr none ↦ ap (λ x. least (clusters x)) (run_merge_short l p q floor (omega arith) in_l)
    ]

-- ---- merges and deletion bring in no new number

-- a list that reads another has no number of its own
pub Stands-from_reading : (c : ℕ) (xs ys : List hb_glyph_info_t) → Reading xs ys → Stands c ys → Stands c xs
Stands-from_reading c xs ys r w = (r.from w.0, r.within w.0 w.1, sym (r.cluster w.0 w.1) ∙ w.2)

pub merged_stands : (any_order : Bool) (l : List hb_glyph_info_t) (p q floor c : ℕ) → q ≤ length l
    → Stands c (merge_or_mark any_order l p q floor) → Stands c l
merged_stands any_order l p q floor c in_l =
    merge_or_mark_keeps (λ xs. Stands c xs → Stands c l) floor (λ xs ys r h w. h (Stands-from_reading c xs ys r w))
    (λ xs a b in_xs h w. h (run_merge_stands xs a b floor c in_xs w)) any_order l p q in_l (λ w. w)

pub deleted_stands : (any_order : Bool) (out : List hb_glyph_info_t) (x : hb_glyph_info_t) (rest : List hb_glyph_info_t)
    (c : ℕ)
    → Stands c ((deletion any_order out x rest).out ++ (deletion any_order out x rest).rest)
    → Stands c (out ++ x ∷ rest)
deleted_stands any_order out x rest c =
    deletion_keeps (λ xs. Stands c xs → Stands c (out ++ x ∷ rest)) (λ xs ys r h w. h (Stands-from_reading c xs ys r w))
    (λ xs a b in_xs h w. h (run_merge_stands xs a b 0 c in_xs w)) any_order out x rest (λ w. w)

-- ---- the least stays when a glyph is deletion

-- in two lists, one after the other
pub stands_left : (c : ℕ) (l r : List hb_glyph_info_t) → Stands c l → Stands c (l ++ r)
stands_left c l r w =
    (w.0, omega (arith, w.1, length-append l r), ap (λ g. g.cluster) (get_or_append_left l r zero_glyph w.0 w.1) ∙ w.2)

pub stands_right : (c : ℕ) (l r : List hb_glyph_info_t) → Stands c r → Stands c (l ++ r)
stands_right c l r w = (
  length l + w.0,
  omega (arith, w.1, length-append l r),
  ap (λ g. g.cluster) (get_or-append-add l r w.0 zero_glyph) ∙ w.2,
)

-- where c stands, if not at x
stands_cases : (c : ℕ) (out : List hb_glyph_info_t) (x : hb_glyph_info_t) (rest : List hb_glyph_info_t)
    → Stands c (out ++ x ∷ rest) → Stands c out ⊎ ((x.cluster ≡ c) ⊎ Stands c rest)
stands_cases c out x rest w =
    let n = length-append out (x ∷ rest) in
    elim (cases_lt w.0 (length out)) [
      | inl lt ↦ inl (w.0, lt, ap (λ g. g.cluster) (sym (get_or_append_left out (x ∷ rest) zero_glyph w.0 lt)) ∙ w.2)
      | inr ge ↦ inr (go (w.0 - length out) (omega (arith, w.1))
          (ap (λ g. g.cluster) (sym (get_or-append_right out (x ∷ rest) (length out) w.0 zero_glyph refl ge)) ∙ w.2))
    ]
  where
    go : (j : ℕ) → j < suc (length rest) → (at (x ∷ rest) j).cluster ≡ c → (x.cluster ≡ c) ⊎ Stands c rest
    go zero h e = inl e
    go (suc j) h e = inr (j, omega arith, e)

-- a neighbour has the cluster of x
beside : (out : List hb_glyph_info_t) (c : ℕ) (rest : List hb_glyph_info_t)
    → (begins_with c rest || (is_not_empty out && eqb (last_cluster out) c)) ≡ true → Stands c (out ++ rest)
unfolding begins_with is_not_empty last_cluster
beside out c [] e =
    let w = and_parts (is_not_empty out) (eqb (last_cluster out) c) e in
    let n : 0 < length out = length_some out w.0 in
    stands_left c out [] (
      length out - 1,
      omega arith,
      sym (get_or-clusters out (length out - 1) zero_glyph (omega arith)) ∙ eqb-true _ c w.1,
    )
beside out c (y ∷ rest) e =
    elim (or_cases (eqb y.cluster c) (is_not_empty out && eqb (last_cluster out) c) e) [
      | inl a ↦ stands_right c out (y ∷ rest) (0, omega arith, eqb-true _ c a)
      | inr a ↦
          let w = and_parts (is_not_empty out) (eqb (last_cluster out) c) a in
          let n : 0 < length out = length_some out w.0 in
          stands_left c out (y ∷ rest) (
            length out - 1,
            omega arith,
            sym (get_or-clusters out (length out - 1) zero_glyph (omega arith)) ∙ eqb-true _ c w.1,
          )
    ]

module _ (c : ℕ) (out : List hb_glyph_info_t) (x : hb_glyph_info_t) (rest : List hb_glyph_info_t)
    (h : IsLeast c (out ++ x ∷ rest)) where
  -- x and the glyphs of `out` are not below the least
  low_x : c ≤ x.cluster
  low_x =
      let i : length out + 0 ≡ length out = omega arith in
      let e : (at (out ++ x ∷ rest) (length out)).cluster ≡ x.cluster =
      ap (λ j. (at (out ++ x ∷ rest) j).cluster) (sym i)
      ∙ ap (λ g. g.cluster) (get_or-append-add out (x ∷ rest) 0 zero_glyph) in
      omega (arith, h.low (length out) (omega (arith, length-append out (x ∷ rest))), e)

  low_out : (k : ℕ) → k < length out → c ≤ (at out k).cluster
  low_out k lt =
      let e : (at (out ++ x ∷ rest) k).cluster ≡ (at out k).cluster =
      ap (λ g. g.cluster) (get_or_append_left out (x ∷ rest) zero_glyph k lt) in
      omega (arith, h.low k (omega (arith, length-append out (x ∷ rest))), e)

  -- x is not the least
  by_others : (x.cluster ≡ c → ⊥) → Stands c (out ++ rest)
  by_others off =
      elim (stands_cases c out x rest h.stands) [
        | inl a ↦ stands_left c out rest a
        | inr b ↦ elim b [ inl e ↦ absurd (off e) | inr a ↦ stands_right c out rest a ]
      ]

  -- the trailing run of `out` takes the cluster of x, which is lower
  by_run : 0 < length out → x.cluster < last_cluster out → Stands c (with_trailing_run x.cluster x.mask out ++ rest)
  unfolding with_trailing_run last_cluster
  by_run some low =
      let n = length out in
      let cs = clusters out in
      let nc = length-clusters out in
      let last = get_or cs (n - 1) 0 in
      let a = run_start cs last 0 n in
      let le : a ≤ n - 1 =
      omega (arith, run_start_more cs last 0 n some (omega arith) refl, run_start-le cs last 0 (n - 1)) in
      let f = with_cluster x.cluster x.mask in
      let l2 = map_range f out a n in
      let n2 : length l2 ≡ n = length-map_range f out a n (omega arith) in
      elim (stands_cases c out x rest h.stands) [
        | inl w ↦ elim (cases_lt w.0 a) [
          | inl lt ↦ stands_left c l2 rest (
            w.0,
            omega (arith, w.1),
            ap (λ g. g.cluster) (map_range-before f out a n (omega arith) w.0 zero_glyph lt w.1) ∙ w.2,
          )
          | inr ge ↦
              let e : get_or cs w.0 0 ≡ last = get_or-run_start cs last 0 n w.0 (omega arith) ge w.1 in
              absurd (omega (arith, e, get_or-clusters out w.0 zero_glyph w.1, w.2, low_x))
        ]
        | inr b ↦ elim b [
          | inl e ↦ stands_left c l2 rest (
            n - 1,
            omega arith,
            ap (λ g. g.cluster) (map_range-within f out a n (omega arith) (n - 1) zero_glyph le (omega arith)
                (omega arith)) ∙ cluster-with_cluster x.cluster x.mask (at out (n - 1)) ∙ e,
          )
          | inr w ↦ stands_right c l2 rest w
        ]
      ]

  -- x is above the last of `out`
  by_higher : 0 < length out → last_cluster out ≤ x.cluster → (last_cluster out ≡ x.cluster → ⊥)
      → Stands c (out ++ rest)
  unfolding last_cluster
  by_higher some high apart =
      let n = length-clusters out in
      by_others (λ e. apart (omega (
        arith,
        low_out (length out - 1) (omega arith),
        get_or-clusters out (length out - 1) zero_glyph (omega arith),
      )))

  -- a neighbour of x has its cluster
  by_neighbour : has_neighbour_in x.cluster out rest ≡ true → Stands c (out ++ rest)
  by_neighbour e =
      elim (cases_Bool (eqb x.cluster c)) [
        | inl is ↦ subst (λ d. Stands d (out ++ rest)) (eqb-true _ _ is) (beside out x.cluster rest e)
        | inr off ↦ by_others (eqb-false _ _ off)
      ]

-- the merge of the first two of a list gives both the least of the two
by_next : (c : ℕ) (x y : hb_glyph_info_t) (r : List hb_glyph_info_t) → IsLeast c (x ∷ y ∷ r)
    → Stands c (drop 1 (run_merge (x ∷ y ∷ r) 0 2 0))
by_next c x y r h =
    let l : List hb_glyph_info_t = x ∷ y ∷ r in
    let l2 = run_merge l 0 2 0 in
    let n : length l2 ≡ length l = length-run_merge l 0 2 0 in
    let m : length (drop 1 l2) ≡ length l2 - 1 = length-drop 1 l2 in
    let two : 2 ≤ length l = omega arith in
    let start = widened_start-le (clusters l) 0 2 0 in
    let end = widened_end-ge (clusters l) 0 2 in
    let first : (at l2 0).cluster ≡ range_least (clusters l) 0 2 =
    run_merge_inside l 0 2 0 (omega arith) 0 (omega arith) (omega arith) (omega arith) in
    let second : (at l2 1).cluster ≡ range_least (clusters l) 0 2 =
    run_merge_inside l 0 2 0 (omega arith) 1 (omega arith) (omega arith) (omega arith) in
    let w = least_stands_after_merge l 0 2 0 (omega arith) two c h in
    let i : 1 + (w.0 - 1) ≡ w.0 → (at (drop 1 l2) (w.0 - 1)).cluster ≡ c =
    λ e. ap {A = hb_glyph_info_t} (λ g. g.cluster) (get_or-drop 1 l2 (w.0 - 1) zero_glyph ∙ ap (at l2) e) ∙ w.2 in
    elim (cases_lt w.0 1) [
      | inl lt ↦
          let z : w.0 ≡ 0 = omega arith in (
            0,
            omega arith,
            ap {A = hb_glyph_info_t} (λ g. g.cluster) (get_or-drop 1 l2 0 zero_glyph) ∙ second
                ∙ sym first ∙ ap (λ k. (at l2 k).cluster) (sym z) ∙ w.2,
          )
      | inr ge ↦ (w.0 - 1, omega (arith, w.1), i (omega arith))
    ]

-- of two tests that fail, where the first part of the second holds
neither : (a b d : Bool) → (a || (b && d)) ≡ false → b ≡ true → d ≡ false
neither true b d e e2 = cc
neither false true d e e2 = e
neither false false d e e2 = cc

-- what the merge with the next glyph leaves, where nothing was put out
by_merge : (c : ℕ) (out : List hb_glyph_info_t) (x : hb_glyph_info_t) (rest : List hb_glyph_info_t)
    → IsLeast c (out ++ x ∷ rest)
    → is_not_empty out ≡ false → is_not_empty rest ≡ true → Stands c (out ++ drop 1 (run_merge (x ∷ rest) 0 2 0))
unfolding is_not_empty
by_merge c [] x [] h e e2 = cc
by_merge c [] x (y ∷ r) h e e2 = by_next c x y r h
by_merge c (o ∷ out) x rest h e e2 = cc

-- where no run is lowered and nothing is merged, and no neighbour has the cluster
not_lower : (near some low : Bool) → (not near && (some && low)) ≡ false → near ≡ false → some ≡ true → low ≡ false
not_lower true some low e e2 e3 = cc
not_lower false true low e e2 e3 = e
not_lower false false low e e2 e3 = cc

no_more : (near some more : Bool) → (not near && (not some && more)) ≡ false → near ≡ false → some ≡ false
    → more ≡ false
no_more true some more e e2 e3 = cc
no_more false true more e e2 e3 = cc
no_more false false more e e2 e3 = e

-- no glyph is left on either side
nothing_left : (out rest : List hb_glyph_info_t) → is_not_empty out ≡ false → is_not_empty rest ≡ false
    → 0 < length (out ++ rest) → ⊥
unfolding is_not_empty
nothing_left [] [] e e2 h = omega arith
nothing_left [] (y ∷ r) e e2 h = cc
nothing_left (o ∷ out) r e e2 h = cc

-- while a glyph remains
pub least_stands_after_deletion : (c : ℕ) (out : List hb_glyph_info_t) (x : hb_glyph_info_t)
    (rest : List hb_glyph_info_t) → IsLeast c (out ++ x ∷ rest) → 0 < length (out ++ rest)
    → Stands c ((deletion false out x rest).out ++ (deletion false out x rest).rest)
unfolding deletion lowers_run merges_next merge_or_mark
least_stands_after_deletion c out x rest h left =
    let Q : OutAndRest → Type 0 = λ d. Stands c (d.out ++ d.rest) in
    cond_both (lowers_run out x rest) _ _ Q
    (λ e. let w = lowers_parts out x rest e in by_run c out x rest h (length_some out w.0) (ltb-true _ _ w.1))
    (λ no_run. cond_both (merges_next out x rest) _ _ Q
    (λ e. let w = merges_parts out x rest e in by_merge c out x rest h w.0 w.1)
    (λ no_merge. elim (cases_Bool (has_neighbour_in x.cluster out rest)) [
      | inl near ↦ by_neighbour c out x rest h near
      | inr apart ↦ elim (cases_Bool (is_not_empty out)) [
        | inl some ↦ by_higher c out x rest h (length_some out some)
            (ltb-false _ _ (not_lower _ _ _ no_run apart some)) (eqb-false _ _ (neither _ _ _ apart some))
        | inr none ↦ absurd (nothing_left out rest none (no_more _ _ _ no_merge apart none) left)
      ]
    ]))

-- so the least number is the same
pub least-deletion : (out : List hb_glyph_info_t) (x : hb_glyph_info_t) (rest : List hb_glyph_info_t)
    → 0 < length (out ++ rest)
    → least (clusters ((deletion false out x rest).out ++ (deletion false out x rest).rest))
    ≡ least (clusters (out ++ x ∷ rest))
least-deletion out x rest left =
    let c = least (clusters (out ++ x ∷ rest)) in
    let h : IsLeast c (out ++ x ∷ rest) =
    IsLeast-least (out ++ x ∷ rest) (omega (arith, length-append out (x ∷ rest))) in
    let new : List hb_glyph_info_t = (deletion false out x rest).out ++ (deletion false out x rest).rest in
    least-from_IsLeast c new (record {
      stands = least_stands_after_deletion c out x rest h left;
      low = λ k lt. let w =
          deleted_stands false out x rest (at new k).cluster (k, lt, refl) in omega (arith, h.low w.0 w.1, w.2);
    })
