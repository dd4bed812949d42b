-- Merges: on monotone clusters the run merge of a range is the merge of its numbers, wherever they stand.
use Rattle.std.proofs.Common.{◌⊎◌, ◌↔◌, ◌∷◌, ◌≡◌, ℕ, ◌+◌, ◌-◌, ◌<◌, ◌≤◌, inl, inr, List, [], length, get_or, set, map}
use Rattle.std.proofs.Common.{take, drop, refl, sym, ap, ◌∙◌, arith, eqb, true, cond, subst}
use Rattle.std.proofs.lemmas.List.{get_or-map, length-map, map-id, same_lists, set-get_or}
use Rattle.std.proofs.lemmas.Bool.{cond_both, false≢true, eqb-false, eqb-true, eq-eqb, cond-true, cond-false}
use Rattle.std.proofs.lemmas.Bool.{cases_Bool, cases_lt, lt-leb, le-leb}
use Rattle.rb_glyph.specs.declared.info.hb_glyph_info_t.{hb_glyph_info_t}
use Rattle.glyph_lists.specs.Parts.{part, map_range}
use Rattle.glyph_lists.specs.Clusters.{clusters, occurs, with_cluster, cluster_merge, run_merge, run_start, run_end}
use Rattle.glyph_lists.specs.Clusters.{range_least, widened_start, widened_end, zero_glyph, least}
use Rattle.glyph_lists.proofs.PartsLemmas.{length-map_range, map_range-before, map_range-within, map_range-after}
use Rattle.glyph_lists.proofs.PartsLemmas.{set-map_range_more, map_range_none}
use Rattle.glyph_lists.proofs.ClustersLemmas.{occurs_at, least-stands, length-clusters, get_or-clusters, clusters-part}
use Rattle.glyph_lists.proofs.ClustersLemmas.{occurs_part_at, occurs_part_place, range_least_one}
use Rattle.glyph_lists.proofs.ClustersLemmas.{IsContiguous}
use Rattle.glyph_lists.proofs.RunsLemmas.{run_end-ge, get_or-run_end, run_end-stops, run_start-le, get_or-run_start}
use Rattle.glyph_lists.proofs.RunsLemmas.{run_start-stops, widened_start-le, widened_end-ge, widened_start_plain}
use Rattle.glyph_lists.proofs.RunsLemmas.{widened_start_run, widened_end_plain, widened_end_run}

-- ---- one glyph of a cluster merge

-- a glyph in cluster m already is as it was
pub with_cluster-same : (m w : ℕ) (g : hb_glyph_info_t) → g.cluster ≡ m → with_cluster m w g ≡ g
unfolding with_cluster
with_cluster-same m w g is = cond-true _ _ _ (eq-eqb g.cluster m is)

-- the cluster becomes the one that is asked for
pub cluster-with_cluster : (n w : ℕ) (g : hb_glyph_info_t) → (with_cluster n w g).cluster ≡ n
unfolding with_cluster
cluster-with_cluster n w g =
    cond_both (eqb g.cluster n) _ _ (λ (x : hb_glyph_info_t). x.cluster ≡ n) (λ e. eqb-true _ _ e) (λ _. refl)

-- where the cluster stays, the whole glyph stays
with_cluster_stays : (n w : ℕ) (g : hb_glyph_info_t) → (with_cluster n w g).cluster ≡ g.cluster → with_cluster n w g ≡ g
with_cluster_stays n w g same = with_cluster-same n w g (sym same ∙ cluster-with_cluster n w g)

-- masks and clusters aside, the glyph is the same
abbrev pub SameOthers : hb_glyph_info_t → hb_glyph_info_t → Type 0
SameOthers g h = (g.glyph_id ≡ h.glyph_id) × (g.var1 ≡ h.var1) × (g.var2 ≡ h.var2)

pub with_cluster_others : (n w : ℕ) (g : hb_glyph_info_t) → SameOthers (with_cluster n w g) g
unfolding with_cluster
with_cluster_others n w g = cond_both (eqb g.cluster n) _ _ (λ (x : hb_glyph_info_t). SameOthers x g)
    (λ _. (refl, refl, refl)) (λ _. (refl, refl, refl))

-- what `cluster_merge` does to one glyph
abbrev merged : List ℕ → ℕ → hb_glyph_info_t → hb_glyph_info_t
merged rs m g = cond (occurs g.cluster rs) (with_cluster m 0 g) g

merged_moves : (rs : List ℕ) (m : ℕ) (g : hb_glyph_info_t) → occurs g.cluster rs ≡ true
    → merged rs m g ≡ with_cluster m 0 g
merged_moves rs m g e = cond-true _ _ _ e

merged_stays : (rs : List ℕ) (m : ℕ) (g : hb_glyph_info_t) → (occurs g.cluster rs ≡ true → g.cluster ≡ m)
    → merged rs m g ≡ g
merged_stays rs m g f =
    elim (cases_Bool (occurs g.cluster rs)) [
      | inl e ↦ merged_moves rs m g e ∙ with_cluster-same m 0 g (f e)
      | inr e ↦ cond-false _ _ _ e
    ]

-- ---- the range that takes in all glyphs that are not in m already

pub map_range-with_cluster : (l : List hb_glyph_info_t) (rs : List ℕ) (m a b : ℕ) → a ≤ b
    → ((k : ℕ) → a ≤ k → k < b → k < length l → occurs (get_or (clusters l) k 0) rs ≡ true)
    → ((k : ℕ) → k < a → k < length l → occurs (get_or (clusters l) k 0) rs ≡ true → get_or (clusters l) k 0 ≡ m)
    → ((k : ℕ) → b ≤ k → k < length l → occurs (get_or (clusters l) k 0) rs ≡ true → get_or (clusters l) k 0 ≡ m)
    → map_range (with_cluster m 0) l a b ≡ map (merged rs m) l
map_range-with_cluster l rs m a b up within before after =
    let n = length-map_range (with_cluster m 0) l a b up in
    same_lists _ _ (n ∙ sym (length-map l (merged rs m)))
    (λ k d h.
    let in_l : k < length l = omega arith in
    let e = get_or-clusters l k d in_l in
    let r = get_or-map (merged rs m) l k d d in_l in
    elim (cases_lt k a) [
      | inl lt ↦ map_range-before (with_cluster m 0) l a b up k d lt in_l
          ∙ sym (r ∙ merged_stays rs m (get_or l k d) (λ o. sym e
          ∙ before k lt in_l (subst (λ c. occurs c rs ≡ true) (sym e) o)))
      | inr ge ↦ elim (cases_lt k b) [
        | inl lt ↦ map_range-within (with_cluster m 0) l a b up k d ge lt in_l
            ∙ sym (r ∙ merged_moves rs m (get_or l k d) (subst (λ c. occurs c rs ≡ true) e (within k ge lt in_l)))
        | inr ge2 ↦ map_range-after (with_cluster m 0) l a b up k d ge2 in_l
            ∙ sym (r ∙ merged_stays rs m (get_or l k d) (λ o. sym e
            ∙ after k ge2 in_l (subst (λ c. occurs c rs ≡ true) (sym e) o)))
      ]
    ])

-- ---- the widened range, on equal numbers that stand together

module _ (cs : List ℕ) (together : IsContiguous cs) (p q : ℕ) (some : p < q) (in_l : q ≤ length cs) where
  abbrev m : ℕ
  m = range_least cs p q

  widened_before : (k : ℕ) → k < widened_start cs p q 0 → occurs (get_or cs k 0) (part cs p q) ≡ true
      → get_or cs k 0 ≡ m
  widened_before k h o =
      let w = occurs_part_place (get_or cs k 0) cs p q in_l o in
      let le = widened_start-le cs p q 0 in
      let at_p : get_or cs p 0 ≡ get_or cs k 0 = together k p w.0 (omega arith) w.1 (omega (arith, w.2)) (sym w.3) in
      elim (cases_Bool (eqb (get_or cs p 0) m)) [
        | inl e ↦ sym at_p ∙ eqb-true _ _ e
        | inr e ↦
            let a = run_start cs (get_or cs p 0) 0 p in
            let is = widened_start_run cs p q 0 (eqb-false _ _ e) in
            let back : get_or cs (a - 1) 0 ≡ get_or cs k 0 =
            together k (a - 1) p (omega (arith, run_start-le cs (get_or cs p 0) 0 p))
            (omega (arith, run_start-le cs (get_or cs p 0) 0 p)) (omega arith) (sym at_p) in
            absurd (run_start-stops cs (get_or cs p 0) 0 p (omega arith) (omega arith) (back ∙ sym at_p))
      ]

  widened_after : (k : ℕ) → widened_end cs p q ≤ k → k < length cs → occurs (get_or cs k 0) (part cs p q) ≡ true
      → get_or cs k 0 ≡ m
  widened_after k h h2 o =
      let w = occurs_part_place (get_or cs k 0) cs p q in_l o in
      let ge = widened_end-ge cs p q in
      let at_q : get_or cs (q - 1) 0 ≡ get_or cs k 0 =
      together w.0 (q - 1) k (omega (arith, w.2)) (omega arith) h2 w.3 ∙ w.3 in
      elim (cases_Bool (eqb (get_or cs (q - 1) 0) m)) [
        | inl e ↦ sym at_q ∙ eqb-true _ _ e
        | inr e ↦
            let b = run_end cs (get_or cs (q - 1) 0) q in
            let is = widened_end_run cs p q (eqb-false _ _ e) in
            let on : get_or cs b 0 ≡ get_or cs (q - 1) 0 =
            together (q - 1) b k (omega (arith, run_end-ge cs (get_or cs (q - 1) 0) q)) (omega arith) h2 at_q in
            absurd (run_end-stops cs (get_or cs (q - 1) 0) q (omega arith) on)
      ]

  widened_within : (k : ℕ) → widened_start cs p q 0 ≤ k → k < widened_end cs p q
      → occurs (get_or cs k 0) (part cs p q) ≡ true
  widened_within k h h2 =
      elim (cases_lt k p) [
        | inl lt ↦ elim (cases_Bool (eqb (get_or cs p 0) m)) [
          | inl e ↦ absurd (omega (arith, widened_start_plain cs p q 0 (eqb-true _ _ e)))
          | inr e ↦ occurs_part_at (get_or cs k 0) cs p q p (omega arith) some in_l
              (sym (get_or-run_start cs (get_or cs p 0) 0 p k (omega arith)
              (omega (arith, widened_start_run cs p q 0 (eqb-false _ _ e))) lt))
        ]
        | inr ge ↦ elim (cases_lt k q) [
          | inl lt ↦ occurs_part_at (get_or cs k 0) cs p q k ge lt in_l refl
          | inr ge2 ↦ elim (cases_Bool (eqb (get_or cs (q - 1) 0) m)) [
            | inl e ↦ absurd (omega (arith, widened_end_plain cs p q (eqb-true _ _ e)))
            | inr e ↦ occurs_part_at (get_or cs k 0) cs p q (q - 1) (omega arith) (omega arith) in_l
                (sym (get_or-run_end cs (get_or cs (q - 1) 0) q k ge2
                (omega (arith, widened_end_run cs p q (eqb-false _ _ e)))))
          ]
        ]
      ]

-- ---- the law

-- the merge of no glyphs
pub cluster_merge-nothing : (l : List hb_glyph_info_t) → cluster_merge l [] ≡ l
unfolding cluster_merge
cluster_merge-nothing l = map-id l

-- where equal numbers stand together, the run merge of a range is the cluster merge of its glyphs
pub run_merge_is_cluster_merge : (l : List hb_glyph_info_t) (p q : ℕ) → q ≤ length l → IsContiguous (clusters l)
    → run_merge l p q 0 ≡ cluster_merge l (part l p q)
unfolding run_merge cluster_merge range_least
run_merge_is_cluster_merge l p q in_l together =
    let n : length (clusters l) ≡ length l = length-map l (λ g. g.cluster) in
    elim (cases_lt p q) [
      | inl some ↦
          let cs = clusters l in
          let in_cs : q ≤ length cs = omega arith in
          cond-false _ _ _ (lt-leb q p some)
          ∙ map_range-with_cluster l (part cs p q) (range_least cs p q) (widened_start cs p q 0) (widened_end cs p q)
          (omega (arith, widened_start-le cs p q 0, widened_end-ge cs p q))
          (λ k h h2 _. widened_within cs together p q some in_cs k h h2)
          (λ k h _. widened_before cs together p q some in_cs k h)
          (λ k h h2. widened_after cs together p q some in_cs k h (omega arith))
          ∙ ap (λ rs. map (merged rs (least rs)) l) (sym (clusters-part l p q))
      | inr none ↦
          let e : q - p ≡ 0 = omega arith in
          cond-true _ _ _ (le-leb q p none) ∙ sym (cluster_merge-nothing l)
          ∙ ap (λ k. cluster_merge l (take k (drop p l))) (sym e)
    ]

-- ---- the length stays

-- a run merge keeps the length
pub length-run_merge : (l : List hb_glyph_info_t) (p q floor : ℕ) → length (run_merge l p q floor) ≡ length l
unfolding run_merge
length-run_merge l p q floor =
    elim (cases_lt p q) [
      | inl some ↦ ap length (cond-false _ _ _ (lt-leb q p some))
          ∙ length-map_range (with_cluster (range_least (clusters l) p q) 0) l (widened_start (clusters l) p q floor)
          (widened_end (clusters l) p q)
          (omega (arith, widened_start-le (clusters l) p q floor, widened_end-ge (clusters l) p q))
      | inr none ↦ ap length (cond-true _ _ _ (le-leb q p none))
    ]

-- ---- a range of one glyph

run_merge_one : (l : List hb_glyph_info_t) (p floor : ℕ) → p < length l → run_merge l p (p + 1) floor ≡ l
unfolding run_merge widened_start widened_end
run_merge_one l p floor in_l =
    let cs = clusters l in
    let m = range_least cs p (p + 1) in
    let n = length-clusters l in
    let i : p + 1 - 1 ≡ p = omega arith in
    let is : m ≡ get_or cs p 0 = range_least_one cs p (omega arith) in
    let first : eqb (get_or cs p 0) m ≡ true = eq-eqb _ _ (sym is) in
    let last : eqb (get_or cs (p + 1 - 1) 0) m ≡ true = eq-eqb _ _ (ap (λ j. get_or cs j 0) i ∙ sym is) in
    let same : with_cluster m 0 (get_or l p zero_glyph) ≡ get_or l p zero_glyph =
    with_cluster-same m 0 (get_or l p zero_glyph) (sym (get_or-clusters l p zero_glyph in_l) ∙ sym is) in
    cond-false _ _ _ (lt-leb (p + 1) p (omega arith))
    ∙ ap (λ a. map_range (with_cluster m 0) l a (widened_end cs p (p + 1))) (cond-true _ _ _ first)
    ∙ ap (λ b. map_range (with_cluster m 0) l p b) (cond-true _ _ _ last)
    ∙ sym (set-map_range_more (with_cluster m 0) l p p (get_or l p zero_glyph) zero_glyph (omega arith) in_l (sym same))
    ∙ ap (λ x. set x p (get_or l p zero_glyph)) (map_range_none (with_cluster m 0) l p)
    ∙ set-get_or l p zero_glyph

-- a range of fewer than two glyphs
pub run_merge_short : (l : List hb_glyph_info_t) (p q floor : ℕ) → q ≤ p + 1 → q ≤ length l → run_merge l p q floor ≡ l
unfolding run_merge
run_merge_short l p q floor short in_l =
    elim (cases_lt p q) [
      | inl some ↦ let e : q ≡ p + 1 =
          omega arith in ap (λ k. run_merge l p k floor) e ∙ run_merge_one l p floor (omega arith)
      | inr none ↦ cond-true _ _ _ (le-leb q p none)
    ]

-- ---- a glyph after a cluster merge

-- where a number goes
abbrev pub moved : List ℕ → ℕ → ℕ → ℕ
moved rs m c = cond (occurs c rs) m c

cluster-merged : (rs : List ℕ) (m : ℕ) (g : hb_glyph_info_t) → (merged rs m g).cluster ≡ moved rs m g.cluster
cluster-merged rs m g =
    elim (cases_Bool (occurs g.cluster rs)) [
      | inl e ↦ ap {A = hb_glyph_info_t} (λ x. x.cluster) (merged_moves rs m g e) ∙ cluster-with_cluster m 0 g
          ∙ sym (cond-true _ _ _ e)
      | inr e ↦ ap {A = hb_glyph_info_t} (λ x. x.cluster) (cond-false _ _ _ e) ∙ sym (cond-false _ _ _ e)
    ]

-- a merge keeps the length
pub length-cluster_merge : (l r : List hb_glyph_info_t) → length (cluster_merge l r) ≡ length l
unfolding cluster_merge
length-cluster_merge l r = length-map l _

-- each glyph after a merge, and its cluster
pub get_or-cluster_merge : (l r : List hb_glyph_info_t) (k : ℕ) → k < length l
    → get_or (cluster_merge l r) k zero_glyph ≡ merged (clusters r) (least (clusters r)) (get_or l k zero_glyph)
unfolding cluster_merge
get_or-cluster_merge l r k in_l = get_or-map (merged (clusters r) (least (clusters r))) l k zero_glyph zero_glyph in_l

pub get_or_clusters-cluster_merge : (l r : List hb_glyph_info_t) (k : ℕ) → k < length l
    → get_or (clusters (cluster_merge l r)) k 0 ≡ moved (clusters r) (least (clusters r)) (get_or (clusters l) k 0)
get_or_clusters-cluster_merge l r k in_l =
    get_or-clusters (cluster_merge l r) k zero_glyph (omega (arith, length-cluster_merge l r))
    ∙ ap {A = hb_glyph_info_t} (λ g. g.cluster) (get_or-cluster_merge l r k in_l)
    ∙ cluster-merged (clusters r) (least (clusters r)) (get_or l k zero_glyph)
    ∙ ap (moved (clusters r) (least (clusters r))) (sym (get_or-clusters l k zero_glyph in_l))

-- ---- two glyphs share a cluster after a cluster merge exactly if they did before or both clusters occur in the range

merge_nothing_shares : (l : List hb_glyph_info_t) (i j : ℕ)
    → (get_or (clusters (cluster_merge l [])) i 0 ≡ get_or (clusters (cluster_merge l [])) j 0)
    ↔ ((get_or (clusters l) i 0 ≡ get_or (clusters l) j 0)
    ⊎ ((occurs (get_or (clusters l) i 0) [] ≡ true) × (occurs (get_or (clusters l) j 0) [] ≡ true)))
merge_nothing_shares l i j =
    let at : (k : ℕ) → get_or (clusters (cluster_merge l [])) k 0 ≡ get_or (clusters l) k 0 =
    λ k. ap (λ x. get_or (clusters x) k 0) (cluster_merge-nothing l) in (
      λ e. inl (sym (at i) ∙ e ∙ at j),
      λ e. elim e [ inl same ↦ at i ∙ same ∙ sym (at j) | inr both ↦ absurd (false≢true both.0) ],
    )

pub merge_shares : (l r : List hb_glyph_info_t) (i j : ℕ) → i < length l → j < length l
    → (get_or (clusters (cluster_merge l r)) i 0 ≡ get_or (clusters (cluster_merge l r)) j 0)
    ↔ ((get_or (clusters l) i 0 ≡ get_or (clusters l) j 0)
    ⊎ ((occurs (get_or (clusters l) i 0) (clusters r) ≡ true)
    × (occurs (get_or (clusters l) j 0) (clusters r) ≡ true)))
merge_shares l [] i j i_in j_in = merge_nothing_shares l i j
merge_shares l (g ∷ r0) i j i_in j_in =
    let r : List hb_glyph_info_t = g ∷ r0 in
    let rs = clusters r in
    let m = least rs in
    let c = get_or (clusters l) i 0 in
    let d = get_or (clusters l) j 0 in
    let nr = length-clusters r in
    let w = least-stands rs (omega arith) in
    let in_r : occurs m rs ≡ true = occurs_at m rs w.0 w.1 w.2 in
    let a = get_or_clusters-cluster_merge l r i i_in in
    let b = get_or_clusters-cluster_merge l r j j_in in (
      λ e.
          let f : moved rs m c ≡ moved rs m d = sym a ∙ e ∙ b in
          elim (cases_Bool (occurs c rs)) [
            | inl on ↦ elim (cases_Bool (occurs d rs)) [
              | inl on2 ↦ inr (on, on2)
              | inr off2 ↦ absurd (false≢true (sym off2
                  ∙ ap (λ k. occurs k rs) (sym (cond-false _ m d off2) ∙ sym f ∙ cond-true _ m c on) ∙ in_r))
            ]
            | inr off ↦ elim (cases_Bool (occurs d rs)) [
              | inl on2 ↦ absurd (false≢true (sym off
                  ∙ ap (λ k. occurs k rs) (sym (cond-false _ m c off) ∙ f ∙ cond-true _ m d on2) ∙ in_r))
              | inr off2 ↦ inl (sym (cond-false _ m c off) ∙ f ∙ cond-false _ m d off2)
            ]
          ],
      λ e. a ∙ elim e [
        | inl same ↦ ap (moved rs m) same
        | inr both ↦ cond-true _ m c both.0 ∙ sym (cond-true _ m d both.1)
      ] ∙ sym b,
    )

-- ---- a glyph after a run merge, in any order of clusters

module _ (l : List hb_glyph_info_t) (p q floor : ℕ) (some : p < q) where
  abbrev cs : List ℕ
  cs = clusters l

  abbrev merged_l : List hb_glyph_info_t
  merged_l = run_merge l p q floor

  run_merge_is_range : merged_l ≡ map_range (with_cluster (range_least cs p q) 0) l (widened_start cs p q floor)
      (widened_end cs p q)
  unfolding run_merge
  run_merge_is_range = cond-false _ _ _ (lt-leb q p some)

  up : widened_start cs p q floor ≤ widened_end cs p q
  up = omega (arith, widened_start-le cs p q floor, widened_end-ge cs p q)

  -- outside the widened range it is as it was, and inside it is in the least cluster of the range
  pub run_merge_outside : (k : ℕ) → k < length l → (k < widened_start cs p q floor) ⊎ (widened_end cs p q ≤ k)
      → get_or merged_l k zero_glyph ≡ get_or l k zero_glyph
  run_merge_outside k in_l (inl lt) = ap (λ x. get_or x k zero_glyph) run_merge_is_range
      ∙ map_range-before (with_cluster (range_least cs p q) 0) l (widened_start cs p q floor) (widened_end cs p q) up k
      zero_glyph lt in_l
  run_merge_outside k in_l (inr ge) = ap (λ x. get_or x k zero_glyph) run_merge_is_range
      ∙ map_range-after (with_cluster (range_least cs p q) 0) l (widened_start cs p q floor) (widened_end cs p q) up k
      zero_glyph ge in_l

  run_merge_within : (k : ℕ) → k < length l → widened_start cs p q floor ≤ k → k < widened_end cs p q
      → get_or merged_l k zero_glyph ≡ with_cluster (range_least cs p q) 0 (get_or l k zero_glyph)
  run_merge_within k in_l from before =
      ap (λ x. get_or x k zero_glyph) run_merge_is_range
      ∙ map_range-within (with_cluster (range_least cs p q) 0) l (widened_start cs p q floor) (widened_end cs p q)
      up k zero_glyph from before in_l

  pub run_merge_inside : (k : ℕ) → k < length l → widened_start cs p q floor ≤ k → k < widened_end cs p q
      → (get_or merged_l k zero_glyph).cluster ≡ range_least cs p q
  run_merge_inside k in_l from before = ap {A = hb_glyph_info_t} (λ g. g.cluster) (run_merge_within k in_l from before)
      ∙ cluster-with_cluster (range_least cs p q) 0 (get_or l k zero_glyph)

-- ---- what a cluster merge leaves as it is

module _ (l r : List hb_glyph_info_t) (k : ℕ) (in_l : k < length l) where
  abbrev g : hb_glyph_info_t
  g = get_or l k zero_glyph

  -- where a merge leaves the cluster, it leaves the glyph, and its other fields everywhere
  pub merge_stays : get_or (clusters (cluster_merge l r)) k 0 ≡ get_or (clusters l) k 0
      → get_or (cluster_merge l r) k zero_glyph ≡ get_or l k zero_glyph
  merge_stays same =
      let n = length-cluster_merge l r in
      let e : (get_or (cluster_merge l r) k zero_glyph).cluster ≡ g.cluster =
      sym (get_or-clusters (cluster_merge l r) k zero_glyph (omega arith)) ∙ same
      ∙ get_or-clusters l k zero_glyph in_l in
      let P : hb_glyph_info_t → Type 0 = λ x. x.cluster ≡ g.cluster → x ≡ g in
      subst P (sym (get_or-cluster_merge l r k in_l))
      (cond_both (occurs g.cluster (clusters r)) _ _ P (λ _. with_cluster_stays (least (clusters r)) 0 g)
      (λ _ _. refl)) e

  pub merge_others : SameOthers (get_or (cluster_merge l r) k zero_glyph) g
  merge_others =
      let P : hb_glyph_info_t → Type 0 = λ x. SameOthers x g in
      subst P (sym (get_or-cluster_merge l r k in_l))
      (cond_both (occurs g.cluster (clusters r)) _ _ P (λ _. with_cluster_others (least (clusters r)) 0 g)
      (λ _. (refl, refl, refl)))

-- in any order of clusters, a run merge too
module _ (l : List hb_glyph_info_t) (p q floor k : ℕ) (in_l : k < length l) where
  run_merge_cases : (get_or (run_merge l p q floor) k zero_glyph ≡ get_or l k zero_glyph)
      ⊎ (get_or (run_merge l p q floor) k zero_glyph
      ≡ with_cluster (range_least (clusters l) p q) 0 (get_or l k zero_glyph))
  unfolding run_merge
  run_merge_cases =
      elim (cases_lt p q) [
        | inl some ↦ elim (cases_lt k (widened_start (clusters l) p q floor)) [
          | inl lt ↦ inl (run_merge_outside l p q floor some k in_l (inl lt))
          | inr ge ↦ elim (cases_lt k (widened_end (clusters l) p q)) [
            | inl lt ↦ inr (run_merge_within l p q floor some k in_l ge lt)
            | inr ge2 ↦ inl (run_merge_outside l p q floor some k in_l (inr ge2))
          ]
        ]
        | inr none ↦ inl (ap (λ x. get_or x k zero_glyph) (cond-true _ _ _ (le-leb q p none)))
      ]

  pub run_merge_stays : get_or (clusters (run_merge l p q floor)) k 0 ≡ get_or (clusters l) k 0
      → get_or (run_merge l p q floor) k zero_glyph ≡ get_or l k zero_glyph
  run_merge_stays same =
      let n = length-run_merge l p q floor in
      let g = get_or l k zero_glyph in
      let e : (get_or (run_merge l p q floor) k zero_glyph).cluster ≡ g.cluster =
      sym (get_or-clusters (run_merge l p q floor) k zero_glyph (omega arith)) ∙ same
      ∙ get_or-clusters l k zero_glyph in_l in
      elim run_merge_cases [
        | inl is ↦ is
        | inr is ↦ is ∙ with_cluster_stays (range_least (clusters l) p q) 0 g (sym (ap (λ x. x.cluster) is) ∙ e)
      ]

  pub run_merge_others : SameOthers (get_or (run_merge l p q floor) k zero_glyph) (get_or l k zero_glyph)
  run_merge_others =
      let P : hb_glyph_info_t → Type 0 = λ x. SameOthers x (get_or l k zero_glyph) in
      elim run_merge_cases [
        | inl is ↦ subst P (sym is) (refl, refl, refl)
        | inr is ↦ subst P (sym is) (with_cluster_others (range_least (clusters l) p q) 0 (get_or l k zero_glyph))
      ]
