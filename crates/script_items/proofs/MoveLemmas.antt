-- What stays of the clusters where items are moved within a range of one cluster.
use Rattle.std.proofs.Common.{◌≡◌, ◌⊎◌, inl, inr, ℕ, ◌+◌, ◌-◌, ◌<◌, ◌≤◌, Bool, false, List, [], ◌++◌}
use Rattle.std.proofs.Common.{length, take, drop, get_or, refl, sym, ap, ◌∙◌, subst, arith, length-append}
use Rattle.std.proofs.Common.{length-take, length-drop}
use Rattle.std.proofs.lemmas.Bool.{cases_lt, cond-false, cond_both}
use Rattle.std.proofs.lemmas.List.{get_or-take, get_or-drop, get_or_append_left, get_or-append_right, get_or-map}
use Rattle.std.proofs.lemmas.List.{same_lists, map-append, drop_all, take_all, append-nil, drop-take, drop-drop, take-take}
use borrow.Rule.Slice.PartMut.{put_mid}
use Rattle.rb_glyph.specs.declared.info.hb_glyph_info_t.{hb_glyph_info_t}
use Rattle.glyph_lists.specs.Clusters.{clusters, zero_glyph, run_merge, least}
use Rattle.glyph_lists.specs.KeptClusters.{Runs}
use Rattle.glyph_lists.specs.Parts.{part}
use Rattle.glyph_lists.proofs.ClustersLemmas.{get_or-clusters, length-clusters}
use Rattle.glyph_lists.proofs.MergesLemmas.{run_merge_inside, length-run_merge}
use Rattle.glyph_lists.proofs.PartsLemmas.{length-part, get_or-part}
use Rattle.glyph_lists.proofs.RunsLemmas.{widened_start-le, widened_end-ge}
use Rattle.glyph_laws.proofs.NumbersLemmas.{Stands, Stands-from_occurs, occurs-from_stands, stands_left, stands_right}
use Rattle.glyph_laws.proofs.ReadingsLemmas.{at}
use Rattle.shaping_buffer.specs.State.{State}
use Rattle.shaping_buffer.specs.ClusterStep.{any_order, both, merge_clusters, merge_out_clusters}
use Rattle.shaping_buffer.specs.KeepsClusters.{KeepsClusters}
use Rattle.shaping_buffer.specs.Lending.{with_input, with_out}
use Rattle.shaping_buffer.proofs.LeastSteps.{stands_split}
use Rattle.shaping_buffer.proofs.MergingLemmas.{input-closed_merge}
use Rattle.script_items.specs.Moves.{moved, IsOneCluster}

-- lists that agree in their clusters place by place
same_clusters : (xs ys : List hb_glyph_info_t) → length ys ≡ length xs
    → ((k : ℕ) → k < length ys → (at ys k).cluster ≡ (at xs k).cluster) → clusters ys ≡ clusters xs
same_clusters xs ys long each =
    let n = length-clusters xs in
    let m = length-clusters ys in
    same_lists (clusters ys) (clusters xs) (m ∙ long ∙ sym n)
    (λ k d h. get_or-map (λ g. g.cluster) ys k zero_glyph d (omega arith) ∙ each k (omega arith)
    ∙ sym (get_or-map (λ g. g.cluster) xs k zero_glyph d (omega arith)))

module _ (a m b : ℕ) (l : List hb_glyph_info_t) (up : a ≤ m) (up2 : m ≤ b) (in_l : b ≤ length l) where
  abbrev turned : List hb_glyph_info_t
  turned = moved a m b l

  pub length-moved : length turned ≡ length l
  length-moved = simp (length-append, length-take, length-drop) (omega arith)

  -- where the item at place k comes from: from there, or both places are in the range
  record From (k : ℕ) : Type 0 where
    place : ℕ
    within : place < length l
    is : at turned k ≡ at l place
    where_from : (k ≡ place) ⊎ ((a ≤ k) × (k < b) × (a ≤ place) × (place < b))

  from : (k : ℕ) → k < length l → From k
  from k h =
      let front = take a l in
      let ys = part l m b in
      let xs = part l a m in
      let rest = drop b l in
      let n_front : length front ≡ a = simp length-take (omega arith) in
      let n_ys : length ys ≡ b - m = length-part l m b in_l in
      let n_xs : length xs ≡ m - a = length-part l a m (omega arith) in
      let n_middle : length (ys ++ xs) ≡ b - a = omega (arith, length-append ys xs) in
      elim (cases_lt k a) [
        | inl lt ↦ record {
          place = k;
          within = h;
          is = get_or_append_left front ((ys ++ xs) ++ rest) zero_glyph k (omega arith)
              ∙ get_or-take a l k zero_glyph lt;
          where_from = inl refl;
        }
        | inr ge ↦
            let past_front = get_or-append_right front ((ys ++ xs) ++ rest) a k zero_glyph n_front ge in
            elim (cases_lt k b) [
              | inl lt ↦
                  let in_middle = past_front ∙ get_or_append_left (ys ++ xs) rest zero_glyph (k - a) (omega arith) in
                  elim (cases_lt (k - a) (b - m)) [
                    | inl first ↦
                        let i : k - a ≡ m + (k - a) - m = omega arith in
                        record {
                          place = m + (k - a);
                          within = omega arith;
                          is = in_middle ∙ get_or_append_left ys xs zero_glyph (k - a) (omega arith)
                              ∙ ap (at ys) i
                              ∙ get_or-part l m b (m + (k - a)) zero_glyph (omega arith) (omega arith);
                          where_from = inr (ge, lt, omega arith, omega arith);
                        }
                    | inr second ↦
                        let i : k - a - (b - m) ≡ k - (b - m) - a = omega arith in
                        record {
                          place = k - (b - m);
                          within = omega arith;
                          is = in_middle ∙ get_or-append_right ys xs (b - m) (k - a) zero_glyph n_ys second
                              ∙ ap (at xs) i
                              ∙ get_or-part l a m (k - (b - m)) zero_glyph (omega arith) (omega arith);
                          where_from = inr (ge, lt, omega arith, omega arith);
                        }
                  ]
              | inr past ↦
                  let i : b + (k - a - (b - a)) ≡ k = omega arith in
                  record {
                    place = k;
                    within = h;
                    is = past_front ∙ get_or-append_right (ys ++ xs) rest (b - a) (k - a) zero_glyph n_middle (omega arith)
                        ∙ get_or-drop b l (k - a - (b - a)) zero_glyph ∙ ap (at l) i;
                    where_from = inl refl;
                  }
            ]
      ]

  stands_before : (c : ℕ) → Stands c turned → Stands c l
  stands_before c w =
      let n = length-moved in
      let f = from w.0 (omega (arith, w.1)) in
      (f.place, f.within, ap (λ g. g.cluster) (sym f.is) ∙ w.2)

  -- a range of one cluster
  one_alike : ((k : ℕ) → a ≤ k → k < b → get_or (clusters l) k 0 ≡ get_or (clusters l) a 0)
      → clusters turned ≡ clusters l
  one_alike one =
      let n = length-moved in
      let of_one : (k : ℕ) → a ≤ k → k < b → (at l k).cluster ≡ (at l a).cluster =
      λ k ge lt. sym (get_or-clusters l k zero_glyph (omega arith)) ∙ one k ge lt
      ∙ get_or-clusters l a zero_glyph (omega arith) in
      same_clusters l turned n
      (λ k h.
      let f = from k (omega arith) in
      ap (λ g. g.cluster) f.is ∙ elim f.where_from [
        | inl e ↦ ap (λ i. (at l i).cluster) (sym e)
        | inr w ↦ of_one f.place w.2 w.3 ∙ sym (of_one k w.0 w.1)
      ])

-- no number is new, and at the monotone levels the clusters are the same
keeps_moved : (s t : State) → t.cluster_level ≡ s.cluster_level
    → (any_order s ≡ false → clusters (both t) ≡ clusters (both s))
    → ((c : ℕ) → Stands c (both t) → Stands c (both s)) → KeepsClusters s t
keeps_moved s t level alike back = record {
  ordered = record {
    level = level;
    order = λ any up. subst (Runs up) (sym (alike any));
    numbers = λ c on. occurs-from_stands c (both s) (back c (Stands-from_occurs c (both t) on));
  };
  least = λ any some. ap least (alike any);
}

-- what is written over a whole list
pub take-refilled : (xs ws : List hb_glyph_info_t) → length ws ≡ length xs
    → take (length xs) (ws ++ drop (length ws) xs) ≡ ws
take-refilled xs ws same =
    ap (λ (z : List hb_glyph_info_t). take (length xs) (ws ++ z)) (drop_all (length ws) xs (omega arith))
    ∙ ap (take (length xs)) (append-nil ws) ∙ take_all (length xs) ws (omega arith)

module _ (a m b : ℕ) (s : State) (gs now : List hb_glyph_info_t) (up : a ≤ m) (up2 : m ≤ b) where
  -- what is written back
  pub with_input-moved : b ≤ length s.input → now ≡ s.input → gs ≡ moved a m b now
      → with_input s gs ≡ record s { input = moved a m b s.input }
  with_input-moved in_l was is =
      let same : gs ≡ moved a m b s.input = is ∙ ap (moved a m b) was in
      let long : length gs ≡ length s.input = ap length same ∙ length-moved a m b s.input up up2 in_l in
      ap (λ (l : List hb_glyph_info_t). record s { input = l }) (take-refilled s.input gs long ∙ same)

  pub with_out-moved : b ≤ length s.out → now ≡ s.out → gs ≡ moved a m b now
      → with_out s gs ≡ record s { out = moved a m b s.out }
  with_out-moved in_l was is =
      let same : gs ≡ moved a m b s.out = is ∙ ap (moved a m b) was in
      let long : length gs ≡ length s.out = ap length same ∙ length-moved a m b s.out up up2 in_l in
      ap (λ (l : List hb_glyph_info_t). record s { out = l }) (take-refilled s.out gs long ∙ same)

  -- items of the list
  pub keeps_moved_input : b ≤ length s.input → now ≡ s.input → gs ≡ moved a m b now
      → IsOneCluster (any_order s) a b s.input → KeepsClusters s (with_input s gs)
  keeps_moved_input in_l was is one =
      let l = s.input in
      let same : gs ≡ moved a m b l = is ∙ ap (moved a m b) was in
      let long : length gs ≡ length l = ap length same ∙ length-moved a m b l up up2 in_l in
      let now_is : (with_input s gs).input ≡ moved a m b l = take-refilled l gs long ∙ same in
      keeps_moved s (with_input s gs) refl
      (λ any. ap (λ x. clusters (s.out ++ x)) now_is ∙ map-append (λ g. g.cluster) s.out (moved a m b l)
      ∙ ap (λ cs. clusters s.out ++ cs) (one_alike a m b l up up2 in_l (one.alike any))
      ∙ sym (map-append (λ g. g.cluster) s.out l))
      (λ c w. elim (stands_split c s.out (moved a m b l) (subst (λ x. Stands c (s.out ++ x)) now_is w)) [
        | inl v ↦ stands_left c s.out l v
        | inr v ↦ stands_right c s.out l (stands_before a m b l up up2 in_l c v)
      ])

  -- items that were put out
  pub keeps_moved_out : b ≤ length s.out → now ≡ s.out → gs ≡ moved a m b now
      → IsOneCluster (any_order s) a b s.out → KeepsClusters s (with_out s gs)
  keeps_moved_out in_l was is one =
      let l = s.out in
      let same : gs ≡ moved a m b l = is ∙ ap (moved a m b) was in
      let long : length gs ≡ length l = ap length same ∙ length-moved a m b l up up2 in_l in
      let now_is : (with_out s gs).out ≡ moved a m b l = take-refilled l gs long ∙ same in
      keeps_moved s (with_out s gs) refl
      (λ any. ap (λ x. clusters (x ++ s.input)) now_is ∙ map-append (λ g. g.cluster) (moved a m b l) s.input
      ∙ ap (λ cs. cs ++ clusters s.input) (one_alike a m b l up up2 in_l (one.alike any))
      ∙ sym (map-append (λ g. g.cluster) l s.input))
      (λ c w. elim (stands_split c (moved a m b l) s.input (subst (λ x. Stands c (x ++ s.input)) now_is w)) [
        | inl v ↦ stands_left c l s.input (stands_before a m b l up up2 in_l c v)
        | inr v ↦ stands_right c l s.input v
      ])

-- ---- a merged range is one cluster

cluster-run_merge : (l : List hb_glyph_info_t) (a b floor : ℕ) → b ≤ length l → (k : ℕ) → a ≤ k → k < b
    → (at (run_merge l a b floor) k).cluster ≡ (at (run_merge l a b floor) a).cluster
cluster-run_merge l a b floor in_l k ge lt =
    let start = widened_start-le (clusters l) a b floor in
    let end = widened_end-ge (clusters l) a b in
    let some : a < b = omega arith in
    run_merge_inside l a b floor some k (omega arith) (omega arith) (omega arith)
    ∙ sym (run_merge_inside l a b floor some a (omega arith) (omega arith) (omega arith))

module _ (a b : ℕ) (s t : State) where
  pub merged_input_is_one : s.have_output ≡ false → s.out ≡ [] → b ≤ length s.input → t ≡ merge_clusters a b s
      → IsOneCluster (any_order t) a b t.input
  merged_input_is_one closed none in_l is = record {
    alike = λ any k ge lt.
        let l = run_merge s.input a b s.idx in
        let n = length-run_merge s.input a b s.idx in
        let level : any_order s ≡ false = sym (ap any_order is) ∙ any in
        let now : t.input ≡ l =
        ap (λ (u : State). u.input) is
        ∙ sym (ap (λ (u : State). u.input) (input-closed_merge a b s closed none level)) in
        ap (λ xs. get_or (clusters xs) k 0) now
        ∙ get_or-clusters l k zero_glyph (omega arith)
        ∙ cluster-run_merge s.input a b s.idx in_l k ge lt
        ∙ sym (get_or-clusters l a zero_glyph (omega arith))
        ∙ sym (ap (λ xs. get_or (clusters xs) a 0) now);
  }

  pub merged_out_is_one : b ≤ length s.out → t ≡ merge_out_clusters a b s → IsOneCluster (any_order t) a b t.out
  merged_out_is_one in_out is = record {
    alike = λ any k ge lt.
        let l = run_merge (both s) a b 0 in
        let n = length-run_merge (both s) a b 0 in
        let long = length-append s.out s.input in
        let level : any_order s ≡ false = sym (ap any_order is) ∙ any in
        let now : t.out ≡ take (length s.out) l =
        ap (λ (u : State). u.out) is ∙ ap (take (length s.out)) (cond-false (any_order s) (both s) l level) in
        let short : length (take (length s.out) l) ≡ length s.out = simp length-take (omega arith) in
        ap (λ xs. get_or (clusters xs) k 0) now
        ∙ get_or-clusters (take (length s.out) l) k zero_glyph (omega arith)
        ∙ ap (λ g. g.cluster) (get_or-take (length s.out) l k zero_glyph (omega arith))
        ∙ cluster-run_merge (both s) a b 0 (omega arith) k ge lt
        ∙ ap (λ g. g.cluster) (sym (get_or-take (length s.out) l a zero_glyph (omega arith)))
        ∙ sym (get_or-clusters (take (length s.out) l) a zero_glyph (omega arith))
        ∙ sym (ap (λ xs. get_or (clusters xs) a 0) now);
  }

  pub length-merged_out : t ≡ merge_out_clusters a b s → length t.out ≡ length s.out
  length-merged_out is =
      let long = length-append s.out s.input in
      let merged = length-run_merge (both s) a b 0 in
      ap (λ (u : State). length u.out) is
      ∙ cond_both (any_order s) (both s) (run_merge (both s) a b 0)
      (λ x. length (take (length s.out) x) ≡ length s.out) (λ _. simp length-take (omega arith))
      (λ _. simp length-take (omega arith))

-- a part of such a range
pub part_is_one : (any : Bool) (a b c : ℕ) (l : List hb_glyph_info_t) → c ≤ b → IsOneCluster any a b l
    → IsOneCluster any a c l
part_is_one any a b c l le one = record { alike = λ is k ge lt. one.alike is k ge (omega arith) }

-- the last items of a range turned to its front
pub put_mid-moved : (a m b : ℕ) (l ys : List hb_glyph_info_t) → a ≤ m → m ≤ b → b ≤ length l
    → ys ≡ drop (length (part l a b) - (b - m)) (part l a b) ++ take (length (part l a b) - (b - m)) (part l a b)
    → put_mid a (b - a) l ys ≡ moved a m b l
put_mid-moved a m b l ys up up2 in_l is =
    let n : length (part l a b) - (b - m) ≡ m - a = omega (arith, length-part l a b in_l) in
    let k : b - a ≡ m - a + (b - m) = omega arith in
    let start : a + (m - a) ≡ m = omega arith in
    let end : a + (b - a) ≡ b = omega arith in
    let last : drop (m - a) (part l a b) ≡ part l m b =
    ap (λ i. drop (m - a) (take i (drop a l))) k ∙ drop-take (m - a) (b - m) (drop a l)
    ∙ ap (take (b - m)) (drop-drop (m - a) a l ∙ ap (λ i. drop i l) start) in
    let first : take (m - a) (part l a b) ≡ part l a m = take-take (m - a) (b - a) (drop a l) (omega arith) in
    let turned : ys ≡ part l m b ++ part l a m =
    is ∙ ap (λ i. drop i (part l a b) ++ take i (part l a b)) n
    ∙ ap (λ xs. xs ++ take (m - a) (part l a b)) last ∙ ap (λ xs. part l m b ++ xs) first in
    let rest : drop (b - a) (drop a l) ≡ drop b l = drop-drop (b - a) a l ∙ ap (λ i. drop i l) end in
    ap (λ xs. take a l ++ (xs ++ drop (b - a) (drop a l))) turned
    ∙ ap (λ xs. take a l ++ (part l m b ++ part l a m ++ xs)) rest
