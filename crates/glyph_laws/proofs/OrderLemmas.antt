-- What a merge of a range keeps: the order of all clusters, and coarse lists.
use Rattle.std.proofs.Common.{◌≡◌, ℕ, ◌-◌, ◌<◌, ◌≤◌, ◌⊎◌, inl, inr, List, length, get_or, refl, sym, ap, ◌∙◌, arith}
use Rattle.std.proofs.Common.{Bool, true, false, subst}
use Rattle.std.proofs.lemmas.Bool.{cond-true, cond-false, cases_Bool, cases_lt, false≢true}
use Rattle.rb_glyph.specs.declared.info.hb_glyph_info_t.{hb_glyph_info_t}
use Rattle.glyph_lists.specs.Parts.{part}
use Rattle.glyph_lists.specs.Clusters.{clusters, occurs, run_merge, widened_start, widened_end, range_least, least}
use Rattle.glyph_lists.specs.Clusters.{NeverFalls, NeverRises, IsMonotone, IsCoarse, zero_glyph}
use Rattle.glyph_lists.specs.KeptClusters.{Runs}
use Rattle.glyph_lists.proofs.PartsLemmas.{length-part, get_or-part}
use Rattle.glyph_lists.proofs.ClustersLemmas.{length-clusters, get_or-clusters, clusters-part, occurs_part_at}
use Rattle.glyph_lists.proofs.ClustersLemmas.{occurs_part_place, IsContiguous-from_monotone, least-le, range_least-le}
use Rattle.glyph_lists.proofs.ClustersLemmas.{range_least-stands}
use Rattle.glyph_lists.proofs.RunsLemmas.{widened_start-le, widened_start_plain, widened_end_plain}
use Rattle.glyph_lists.proofs.MergesLemmas.{moved, get_or_clusters-cluster_merge, run_merge_others, run_merge_outside}
use Rattle.glyph_lists.proofs.MergesLemmas.{run_merge_inside, run_merge_is_cluster_merge, length-run_merge}
use Rattle.glyph_lists.proofs.MergesLemmas.{run_merge_short}

-- ---- a run merge keeps monotone clusters monotone, down to any floor

module _ (l : List hb_glyph_info_t) (p q floor : ℕ) (some : p < q) (in_l : q ≤ length l) where
  abbrev cs : List ℕ
  cs = clusters l

  abbrev ds : List ℕ
  ds = clusters (run_merge l p q floor)

  -- the numbers after the merge, outside the widened range and in it
  outside : (k : ℕ) → k < length l → (k < widened_start cs p q floor) ⊎ (widened_end cs p q ≤ k)
      → get_or ds k 0 ≡ get_or cs k 0
  outside k in_l out =
      get_or-clusters (run_merge l p q floor) k zero_glyph (omega (arith, length-run_merge l p q floor))
      ∙ ap {A = hb_glyph_info_t} (λ g. g.cluster) (run_merge_outside l p q floor some k in_l out)
      ∙ sym (get_or-clusters l k zero_glyph in_l)

  inside : (k : ℕ) → k < length l → widened_start cs p q floor ≤ k → k < widened_end cs p q
      → get_or ds k 0 ≡ range_least cs p q
  inside k in_l from before =
      get_or-clusters (run_merge l p q floor) k zero_glyph (omega (arith, length-run_merge l p q floor))
      ∙ run_merge_inside l p q floor some k in_l from before

  -- rising numbers: the range begins with its least, and only its end is widened
  rising : NeverFalls cs → NeverFalls ds
  rising up i j le in_ds =
      let n = length-clusters l in
      let n2 = length-clusters (run_merge l p q floor) in
      let n3 = length-run_merge l p q floor in
      let w = range_least-stands cs p q (omega arith) some in
      let first : get_or cs p 0 ≡ range_least cs p q =
      omega (
        arith,
        range_least-le cs p q (omega arith) p (omega arith) some,
        up p w.0 w.1 (omega (arith, w.2)),
        w.3,
      ) in
      let start = widened_start_plain cs p q floor first in
      elim (cases_lt i p) [
        | inl i_before ↦ elim (cases_lt j p) [
          | inl j_before ↦ omega (
            arith,
            outside i (omega arith) (inl (omega arith)),
            outside j (omega arith) (inl (omega arith)),
            up i j le (omega arith),
          )
          | inr j_from ↦ elim (cases_lt j (widened_end cs p q)) [
            | inl j_in ↦ omega (
              arith,
              outside i (omega arith) (inl (omega arith)),
              inside j (omega arith) (omega arith) j_in,
              up i p (omega arith) (omega arith),
            )
            | inr j_past ↦ omega (
              arith,
              outside i (omega arith) (inl (omega arith)),
              outside j (omega arith) (inr j_past),
              up i j le (omega arith),
            )
          ]
        ]
        | inr i_from ↦ elim (cases_lt j (widened_end cs p q)) [
          | inl j_in ↦ omega (
            arith,
            inside i (omega arith) (omega arith) (omega arith),
            inside j (omega arith) (omega arith) j_in,
          )
          | inr j_past ↦ elim (cases_lt i (widened_end cs p q)) [
            | inl i_in ↦ omega (
              arith,
              inside i (omega arith) (omega arith) i_in,
              outside j (omega arith) (inr j_past),
              up p j (omega arith) (omega arith),
            )
            | inr i_past ↦ omega (
              arith,
              outside i (omega arith) (inr i_past),
              outside j (omega arith) (inr j_past),
              up i j le (omega arith),
            )
          ]
        ]
      ]

  -- falling numbers: the range ends with its least, and only its start is widened
  falling : NeverRises cs → NeverRises ds
  falling down i j le in_ds =
      let n = length-clusters l in
      let n2 = length-clusters (run_merge l p q floor) in
      let n3 = length-run_merge l p q floor in
      let w = range_least-stands cs p q (omega arith) some in
      let last : get_or cs (q - 1) 0 ≡ range_least cs p q =
      omega (
        arith,
        range_least-le cs p q (omega arith) (q - 1) (omega arith) (omega arith),
        down w.0 (q - 1) (omega (arith, w.2)) (omega arith),
        w.3,
      ) in
      let end = widened_end_plain cs p q last in
      let start = widened_start-le cs p q floor in
      elim (cases_lt i (widened_start cs p q floor)) [
        | inl i_before ↦ elim (cases_lt j (widened_start cs p q floor)) [
          | inl j_before ↦ omega (
            arith,
            outside i (omega arith) (inl i_before),
            outside j (omega arith) (inl j_before),
            down i j le (omega arith),
          )
          | inr j_from ↦ elim (cases_lt j q) [
            | inl j_in ↦ omega (
              arith,
              outside i (omega arith) (inl i_before),
              inside j (omega arith) j_from (omega arith),
              down i (q - 1) (omega arith) (omega arith),
            )
            | inr j_past ↦ omega (
              arith,
              outside i (omega arith) (inl i_before),
              outside j (omega arith) (inr (omega arith)),
              down i j le (omega arith),
            )
          ]
        ]
        | inr i_from ↦ elim (cases_lt j q) [
          | inl j_in ↦ omega (
            arith,
            inside i (omega arith) i_from (omega arith),
            inside j (omega arith) (omega arith) (omega arith),
          )
          | inr j_past ↦ elim (cases_lt i q) [
            | inl i_in ↦ omega (
              arith,
              inside i (omega arith) i_from (omega arith),
              outside j (omega arith) (inr (omega arith)),
              down (q - 1) j (omega arith) (omega arith),
            )
            | inr i_past ↦ omega (
              arith,
              outside i (omega arith) (inr (omega arith)),
              outside j (omega arith) (inr (omega arith)),
              down i j le (omega arith),
            )
          ]
        ]
      ]

-- down to any floor
run_merge_keeps_rising : (l : List hb_glyph_info_t) (p q floor : ℕ) → q ≤ length l → NeverFalls (clusters l)
    → NeverFalls (clusters (run_merge l p q floor))
run_merge_keeps_rising l p q floor in_l up =
    elim (cases_lt p q) [
      | inl some ↦ rising l p q floor some in_l up
      | inr none ↦
          subst (λ m. NeverFalls (clusters m)) (sym (run_merge_short l p q floor (omega arith) in_l)) up
    ]

run_merge_keeps_falling : (l : List hb_glyph_info_t) (p q floor : ℕ) → q ≤ length l → NeverRises (clusters l)
    → NeverRises (clusters (run_merge l p q floor))
run_merge_keeps_falling l p q floor in_l down =
    elim (cases_lt p q) [
      | inl some ↦ falling l p q floor some in_l down
      | inr none ↦
          subst (λ m. NeverRises (clusters m)) (sym (run_merge_short l p q floor (omega arith) in_l)) down
    ]

pub run_merge_keeps_running : (up : Bool) (l : List hb_glyph_info_t) (p q floor : ℕ) → q ≤ length l
    → Runs up (clusters l) → Runs up (clusters (run_merge l p q floor))
run_merge_keeps_running true = run_merge_keeps_rising
run_merge_keeps_running false = run_merge_keeps_falling

pub run_merge_keeps_order : (l : List hb_glyph_info_t) (p q floor : ℕ) → q ≤ length l → IsMonotone l
    → IsMonotone (run_merge l p q floor)
run_merge_keeps_order l p q floor in_l (inl up) = inl (run_merge_keeps_rising l p q floor in_l up)
run_merge_keeps_order l p q floor in_l (inr down) = inr (run_merge_keeps_falling l p q floor in_l down)

-- ---- a cluster merge of all equal numbers keeps the order of all numbers, also of those far apart

module _ (cs : List ℕ) (ordered : NeverFalls cs ⊎ NeverRises cs) (p q : ℕ) (some : p < q) (in_l : q ≤ length cs) where
  abbrev rs : List ℕ
  rs = part cs p q

  abbrev m : ℕ
  m = range_least cs p q

  -- a number that is not in the range, below one that is, is below the least
  below_least : (i j : ℕ) → i < length cs → occurs (get_or cs i 0) rs ≡ false → occurs (get_or cs j 0) rs ≡ true
      → get_or cs i 0 ≤ get_or cs j 0 → get_or cs i 0 ≤ m
  below_least i j i_in off on le =
      let a = range_least-stands cs p q in_l some in
      let b = occurs_part_place (get_or cs j 0) cs p q in_l on in
      let never : get_or cs i 0 ≡ get_or cs b.0 0 → ⊥ =
      λ e. false≢true (sym off ∙ occurs_part_at (get_or cs i 0) cs p q b.0 b.1 b.2 in_l (sym e)) in
      elim (cases_lt i p) [
        | inl lt ↦ elim ordered [
          | inl up ↦ omega (arith, up i a.0 (omega (arith, a.1)) (omega (arith, a.2)), a.3)
          | inr down ↦ absurd (never (omega (arith, down i b.0 (omega (arith, b.1)) (omega (arith, b.2)), b.3)))
        ]
        | inr ge ↦ elim (cases_lt i q) [
          | inl lt ↦ absurd (false≢true (sym off ∙ occurs_part_at (get_or cs i 0) cs p q i ge lt in_l refl))
          | inr ge2 ↦ elim ordered [
            | inl up ↦ absurd (never (omega (arith, up b.0 i (omega (arith, b.2)) i_in, b.3)))
            | inr down ↦ omega (arith, down a.0 i (omega (arith, a.2)) i_in, a.3)
          ]
        ]
      ]

  -- of two numbers of the list, the lesser or equal goes to the lesser or equal
  pub moved-le : (i j : ℕ) → i < length cs → j < length cs → get_or cs i 0 ≤ get_or cs j 0
      → moved rs m (get_or cs i 0) ≤ moved rs m (get_or cs j 0)
  moved-le i j i_in j_in le =
      elim (cases_Bool (occurs (get_or cs i 0) rs)) [
        | inl on ↦ elim (cases_Bool (occurs (get_or cs j 0) rs)) [
          | inl on2 ↦ omega (arith, cond-true _ m (get_or cs i 0) on, cond-true _ m (get_or cs j 0) on2)
          | inr off2 ↦
              let b = occurs_part_place (get_or cs i 0) cs p q in_l on in
              omega (
                arith,
                cond-true _ m (get_or cs i 0) on,
                cond-false _ m (get_or cs j 0) off2,
                range_least-le cs p q in_l b.0 b.1 b.2,
                b.3,
              )
        ]
        | inr off ↦ elim (cases_Bool (occurs (get_or cs j 0) rs)) [
          | inl on2 ↦ omega (
            arith,
            cond-false _ m (get_or cs i 0) off,
            cond-true _ m (get_or cs j 0) on2,
            below_least i j i_in off on2 le,
          )
          | inr off2 ↦ omega (arith, cond-false _ m (get_or cs i 0) off, cond-false _ m (get_or cs j 0) off2)
        ]
      ]

-- ---- a run merge to floor 0 keeps a coarse list coarse

-- on monotone clusters each number goes where the cluster merge sends it
pub get_or_clusters-run_merge : (l : List hb_glyph_info_t) (p q k : ℕ) → q ≤ length l → IsMonotone l → k < length l
    → get_or (clusters (run_merge l p q 0)) k 0 ≡ moved (part (clusters l) p q) (range_least (clusters l) p q)
    (get_or (clusters l) k 0)
unfolding range_least
get_or_clusters-run_merge l p q k in_l mono k_in =
    ap (λ x. get_or (clusters x) k 0) (run_merge_is_cluster_merge l p q in_l (IsContiguous-from_monotone l mono))
    ∙ get_or_clusters-cluster_merge l (part l p q) k k_in
    ∙ ap (λ rs. moved rs (least rs) (get_or (clusters l) k 0)) (clusters-part l p q)

-- no number goes up
moved-low : (cs : List ℕ) (p q k : ℕ) → p < q → q ≤ length cs
    → moved (part cs p q) (range_least cs p q) (get_or cs k 0) ≤ get_or cs k 0
unfolding range_least
moved-low cs p q k some in_l =
    elim (cases_Bool (occurs (get_or cs k 0) (part cs p q))) [
      | inl on ↦
          let w = occurs_part_place (get_or cs k 0) cs p q in_l on in
          omega (
            arith,
            cond-true _ (least (part cs p q)) (get_or cs k 0) on,
            least-le (part cs p q) (w.0 - p) (omega (arith, length-part cs p q in_l, w.1, w.2)),
            get_or-part cs p q w.0 0 w.1 w.2,
            w.3,
          )
      | inr off ↦ omega (arith, cond-false _ (least (part cs p q)) (get_or cs k 0) off)
    ]

-- down to floor 0, where all of a run moves
pub run_merge_keeps_coarse : (l : List hb_glyph_info_t) (p q : ℕ) → q ≤ length l → IsCoarse l
    → IsCoarse (run_merge l p q 0)
run_merge_keeps_coarse l p q in_l co =
    elim (cases_lt p q) [
      | inl some ↦
          let cs = clusters l in
          let n = length-clusters l in
          let l2 = run_merge l p q 0 in
          let n2 : length l2 ≡ length l = length-run_merge l p q 0 in
          let at : (k : ℕ) → k < length l → (get_or l2 k zero_glyph).cluster
          ≡ moved (part cs p q) (range_least cs p q) (get_or cs k 0) =
          λ k lt. sym (get_or-clusters l2 k zero_glyph (omega arith))
          ∙ get_or_clusters-run_merge l p q k in_l co.ordered lt in
          let v : (k : ℕ) → k < length l → (get_or l2 k zero_glyph).var2 ≡ (get_or l k zero_glyph).var2 =
          λ k lt. (run_merge_others l p q 0 k lt).2 in
          let le = moved-le cs co.ordered p q some (omega arith) in
          record {
            ordered = run_merge_keeps_order l p q 0 in_l co.ordered;
            low = λ i a. omega (
              arith,
              at i (omega arith),
              v i (omega arith),
              moved-low cs p q i some (omega arith),
              get_or-clusters l i zero_glyph (omega arith),
              co.low i (omega arith),
            );
            alike = λ i j a b c.
                let e = get_or-clusters l i zero_glyph (omega arith) in
                let e2 = get_or-clusters l j zero_glyph (omega arith) in
                omega (
                  arith,
                  at i (omega arith),
                  at j (omega arith),
                  le i j (omega arith) (omega arith)
                      (omega (
                        arith,
                        co.alike i j (omega arith) (omega arith)
                            (omega (arith, v i (omega arith), v j (omega arith))),
                      )),
                );
          }
      | inr none ↦ subst IsCoarse (sym (run_merge_short l p q 0 (omega arith) in_l)) co
    ]
