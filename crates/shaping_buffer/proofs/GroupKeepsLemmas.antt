-- What reversals of ranges and of groups keep of the clusters.
use Rattle.std.proofs.Common.{◌≡◌, ◌⊎◌, inl, inr, ℕ, zero, suc, ◌+◌, ◌-◌, ◌<◌, ◌≤◌, true, false, List, [], ◌∷◌, ◌++◌}
use Rattle.std.proofs.Common.{length, reverse, take, drop, get_or, refl, sym, ap, ◌∙◌, subst, arith, length-append}
use Rattle.std.proofs.Common.{length-take, length-drop, ltb}
use Rattle.std.proofs.lemmas.Bool.{cases_lt, cond-false, cond_both, ltb-true}
use Rattle.std.proofs.lemmas.List.{drop-drop, get_or-reverse, length-reverse, get_or-take, get_or-drop, get_or_append_left}
use Rattle.std.proofs.lemmas.List.{get_or-append_right, get_or-map, same_lists}
use Rattle.rb_glyph.specs.declared.info.hb_glyph_info_t.{hb_glyph_info_t}
use Rattle.glyph_lists.specs.Clusters.{clusters, zero_glyph, run_merge}
use Rattle.glyph_lists.specs.Groups as groups
use Rattle.glyph_lists.specs.Parts.{part}
use Rattle.glyph_lists.proofs.ClustersLemmas.{get_or-clusters, length-clusters}
use Rattle.glyph_lists.proofs.GroupsLemmas.{length-reverse_range, drop-reverse_range, first_group_len-within}
use Rattle.glyph_lists.proofs.MergesLemmas.{run_merge_inside, length-run_merge}
use Rattle.glyph_lists.proofs.PartsLemmas.{length-part, get_or-part}
use Rattle.glyph_lists.proofs.RunsLemmas.{widened_start-le, widened_end-ge}
use Rattle.glyph_laws.proofs.NumbersLemmas.{Stands}
use Rattle.glyph_laws.proofs.ReadingsLemmas.{at}
use Rattle.shaping_buffer.specs.State.{State, len}
use Rattle.shaping_buffer.specs.ClusterStep.{any_order, merge_clusters}
use Rattle.shaping_buffer.specs.GroupStep as group_step
use Rattle.shaping_buffer.specs.KeepsClusters.{KeepsClusters, IsOneCluster, ShareClusters}
use Rattle.shaping_buffer.proofs.ClosedKeepsLemmas.{keeps_list}
use Rattle.shaping_buffer.proofs.GroupStepLemmas.{group_keeps, length_merged, reverse_each}
use Rattle.shaping_buffer.proofs.KeepsLemmas.{keeps_none, keeps_then, keeps_merge_clusters}
use Rattle.shaping_buffer.proofs.LeastSteps.{stands_alike}
use Rattle.shaping_buffer.proofs.MergingLemmas.{input-closed_merge}

-- lists that agree in their clusters place by place
same_clusters : (xs ys : List hb_glyph_info_t) → length ys ≡ length xs
    → ((k : ℕ) → k < length ys → (at ys k).cluster ≡ (at xs k).cluster) → clusters ys ≡ clusters xs
same_clusters xs ys long each =
    let n = length-clusters xs in
    let m = length-clusters ys in
    same_lists (clusters ys) (clusters xs) (m ∙ long ∙ sym n)
    (λ k d h. get_or-map (λ g. g.cluster) ys k zero_glyph d (omega arith) ∙ each k (omega arith)
    ∙ sym (get_or-map (λ g. g.cluster) xs k zero_glyph d (omega arith)))

module _ (a b : ℕ) (l : List hb_glyph_info_t) (up : a ≤ b) (in_l : b ≤ length l) where
  abbrev turned : List hb_glyph_info_t
  turned = groups.reverse_range a b l

  -- where the glyph at place k comes from: from there, or both places are in the range
  record From (k : ℕ) : Type 0 where
    place : ℕ
    within : place < length l
    is : at turned k ≡ at l place
    where_from : (k ≡ place) ⊎ ((a ≤ k) × (k < b) × (a ≤ place) × (place < b))

  from : (k : ℕ) → k < length l → From k
  from k h =
      let front = take a l in
      let middle = reverse (part l a b) in
      let n_front : length front ≡ a = simp length-take (omega arith) in
      let n_part : length (part l a b) ≡ b - a = length-part l a b in_l in
      let n_middle : length middle ≡ b - a = length-reverse (part l a b) ∙ n_part in
      let n_both : length (front ++ middle) ≡ b = omega (arith, length-append front middle) in
      elim (cases_lt k a) [
        | inl lt ↦ record {
          place = k;
          within = h;
          is = get_or_append_left (front ++ middle) (drop b l) zero_glyph k (omega arith)
              ∙ get_or_append_left front middle zero_glyph k (omega arith) ∙ get_or-take a l k zero_glyph lt;
          where_from = inl refl;
        }
        | inr ge ↦ elim (cases_lt k b) [
          | inl lt ↦
              let i : b - a - 1 - (k - a) ≡ a + b - 1 - k - a = omega arith in
              record {
                place = a + b - 1 - k;
                within = omega arith;
                is = get_or_append_left (front ++ middle) (drop b l) zero_glyph k (omega arith)
                    ∙ get_or-append_right front middle a k zero_glyph n_front ge
                    ∙ get_or-reverse (part l a b) (k - a) zero_glyph (omega arith)
                    ∙ ap (λ m. at (part l a b) (m - 1 - (k - a))) n_part
                    ∙ ap (at (part l a b)) i
                    ∙ get_or-part l a b (a + b - 1 - k) zero_glyph (omega arith) (omega arith);
                where_from = inr (ge, lt, omega arith, omega arith);
              }
          | inr past ↦
              let i : b + (k - b) ≡ k = omega arith in
              record {
                place = k;
                within = h;
                is = get_or-append_right (front ++ middle) (drop b l) b k zero_glyph n_both past
                    ∙ get_or-drop b l (k - b) zero_glyph ∙ ap (at l) i;
                where_from = inl refl;
              }
        ]
      ]

  stands_before : (c : ℕ) → Stands c turned → Stands c l
  stands_before c w =
      let n = length-reverse_range a b l up in
      let f = from w.0 (omega (arith, w.1)) in
      (f.place, f.within, ap (λ g. g.cluster) (sym f.is) ∙ w.2)

  -- a range of one cluster
  one_alike : ((k : ℕ) → a ≤ k → k < b → (at l k).cluster ≡ (at l a).cluster) → clusters turned ≡ clusters l
  one_alike one =
      let n = length-reverse_range a b l up in
      same_clusters l turned n
      (λ k h.
      let f = from k (omega arith) in
      ap (λ g. g.cluster) f.is ∙ elim f.where_from [
        | inl e ↦ ap (λ i. (at l i).cluster) (sym e)
        | inr w ↦ one f.place w.2 w.3 ∙ sym (one k w.0 w.1)
      ])

pub keeps_reverse_range : (a b : ℕ) (s : State) → s.out ≡ [] → a ≤ b → b ≤ length s.input → IsOneCluster a b s
    → KeepsClusters s (group_step.reverse_range a b s)
keeps_reverse_range a b s none up in_l one =
    let n = length-clusters s.input in
    let alike : any_order s ≡ false → clusters (groups.reverse_range a b s.input) ≡ clusters s.input = λ any.
    one_alike a b s.input up in_l (λ k ge lt.
    sym (get_or-clusters s.input k zero_glyph (omega arith)) ∙ one any k ge lt
    ∙ get_or-clusters s.input a zero_glyph (omega arith)) in
    keeps_list s (group_step.reverse_range a b s) none none refl alike
    (stands_before a b s.input up in_l)
    (λ any c. stands_alike c s.input (groups.reverse_range a b s.input) (alike any))

-- ---- groups that are merged

-- a merged range is one cluster
merged_is_one : (a b : ℕ) (s : State) → s.have_output ≡ false → s.out ≡ [] → b ≤ length s.input
    → IsOneCluster a b (merge_clusters a b s)
merged_is_one a b s closed none in_l any k ge lt =
    let l = run_merge s.input a b s.idx in
    let n = length-run_merge s.input a b s.idx in
    let is : (merge_clusters a b s).input ≡ l =
    sym (ap (λ (t : State). t.input) (input-closed_merge a b s closed none any)) in
    let start = widened_start-le (clusters s.input) a b s.idx in
    let end = widened_end-ge (clusters s.input) a b in
    let some : a < b = omega arith in
    ap (λ xs. get_or (clusters xs) k 0) is
    ∙ get_or-clusters l k zero_glyph (omega arith)
    ∙ run_merge_inside s.input a b s.idx some k (omega arith) (omega arith) (omega arith)
    ∙ sym (run_merge_inside s.input a b s.idx some a (omega arith) (omega arith) (omega arith))
    ∙ sym (get_or-clusters l a zero_glyph (omega arith))
    ∙ sym (ap (λ xs. get_or (clusters xs) a 0) is)

pub keeps_group : (a b : ℕ) (s : State) → s.have_output ≡ false → s.out ≡ [] → a ≤ b → b ≤ length s.input
    → KeepsClusters s (group_step.reverse_group true a b s)
keeps_group a b s closed none up in_l =
    let t = merge_clusters a b s in
    let in_len : b ≤ len s = subst (λ n. b ≤ n) (sym (cond-false s.have_output (s.idx + length s.input) (length s.input) closed)) in_l in
    let none_put : t.out ≡ [] = ap (λ (u : State). u.out) (group_keeps true a b s none) ∙ none in
    keeps_then s t (group_step.reverse_range a b t) (keeps_merge_clusters a b s in_len)
    (keeps_reverse_range a b t none_put up (omega (arith, length_merged a b s)) (merged_is_one a b s closed none in_l))

-- ---- groups whose glyphs are in one cluster

group_tests : (test : groups.Test) (x : hb_glyph_info_t) (xs : List hb_glyph_info_t) (j : ℕ)
    → suc j < groups.group_len test x xs → test (at (x ∷ xs) j) (at (x ∷ xs) (suc j)) ≡ true
group_tests test x [] j h = absurd (omega arith)
group_tests test x (y ∷ ys) zero h =
    cond_both (test x y) _ _ (λ (n : ℕ). 1 < n → test x y ≡ true) (λ e _. e) (λ _ none. absurd (omega arith)) h
group_tests test x (y ∷ ys) (suc j) h =
    cond_both (test x y) _ _ (λ (n : ℕ). suc (suc j) < n → test (at (y ∷ ys) j) (at (y ∷ ys) (suc j)) ≡ true)
    (λ _ more. group_tests test y ys j (omega arith)) (λ _ none. absurd (omega arith)) h

-- all of a group are in the cluster of its first
cluster-group_shares : (test : groups.Test) (l : List hb_glyph_info_t) → ShareClusters test l → (k : ℕ)
    → k < groups.first_group_len test l → (at l k).cluster ≡ (at l 0).cluster
cluster-group_shares test l share zero h = refl
cluster-group_shares test [] share (suc k) h = absurd (omega arith)
cluster-group_shares test (x ∷ xs) share (suc k) h =
    let within = (first_group_len-within test (x ∷ xs) (omega arith)).1 in
    let i : k + 1 ≡ suc k = omega arith in
    sym (ap (λ n. (at (x ∷ xs) n).cluster) i)
    ∙ share k (omega arith)
    (ap (λ n. test (at (x ∷ xs) k) (at (x ∷ xs) n)) i ∙ group_tests test x xs k (omega arith))
    ∙ cluster-group_shares test (x ∷ xs) share k (omega arith)

share-drop : (test : groups.Test) (n : ℕ) (l : List hb_glyph_info_t) → ShareClusters test l
    → ShareClusters test (drop n l)
share-drop test n l share k h e =
    let a : at (drop n l) k ≡ at l (n + k) = get_or-drop n l k zero_glyph in
    let i : n + (k + 1) ≡ n + k + 1 = omega arith in
    let b : at (drop n l) (k + 1) ≡ at l (n + k + 1) = get_or-drop n l (k + 1) zero_glyph ∙ ap (at l) i in
    ap (λ g. g.cluster) b
    ∙ share (n + k) (omega (arith, length-drop n l))
    (sym (ap (λ g. test g (at (drop n l) (k + 1))) a ∙ ap (λ g. test (at l (n + k)) g) b) ∙ e)
    ∙ sym (ap (λ g. g.cluster) a)

pub shared_each : (test : groups.Test) (turns start : ℕ) (s : State) → s.out ≡ []
    → (any_order s ≡ false → ShareClusters test (drop start s.input))
    → KeepsClusters s (reverse_each false test turns start s)
shared_each test zero start s none share = keeps_none s
shared_each test (suc turns) start s none share = cond_both (ltb start (length s.input)) _ _ (KeepsClusters s)
    (λ e.
    let lt = ltb-true start (length s.input) e in
    let rest = drop start s.input in
    let n = groups.first_group_len test rest in
    let some : 0 < length rest = omega (arith, length-drop start s.input) in
    let size = first_group_len-within test rest some in
    let end = groups.group_end test start s.input in
    let in_l : end ≤ length s.input = omega (arith, size.1, length-drop start s.input) in
    let up : start ≤ end = omega arith in
    let one : IsOneCluster start end s = λ any k ge below.
    let i : start + (k - start) ≡ k = omega arith in
    let zero_at : start + 0 ≡ start = omega arith in
    get_or-clusters s.input k zero_glyph (omega arith)
    ∙ ap (λ j. (at s.input j).cluster) (sym i)
    ∙ sym (ap (λ g. g.cluster) (get_or-drop start s.input (k - start) zero_glyph))
    ∙ cluster-group_shares test rest (share any) (k - start) (omega arith)
    ∙ ap (λ g. g.cluster) (get_or-drop start s.input 0 zero_glyph)
    ∙ ap (λ j. (at s.input j).cluster) zero_at
    ∙ sym (get_or-clusters s.input start zero_glyph lt) in
    let t = group_step.reverse_range start end s in
    let next : drop end t.input ≡ drop n rest =
    drop-reverse_range start end s.input up in_l ∙ sym (drop-drop n start s.input) in
    keeps_then s t (reverse_each false test turns end t) (keeps_reverse_range start end s none up in_l one)
    (shared_each test turns end t none
    (λ any. subst (ShareClusters test) (sym next) (share-drop test n rest (share any)))))
    (λ _. keeps_none s)
