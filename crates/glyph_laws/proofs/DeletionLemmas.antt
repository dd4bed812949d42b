-- Deletion reads a merge: what readings and merges keep, it keeps.
use Rattle.std.proofs.Common.{◌≡◌, ℕ, suc, ◌+◌, ◌-◌, ◌<◌, ◌≤◌, inl, inr, List, [], ◌∷◌, ◌++◌, length, get_or, drop, min}
use Rattle.std.proofs.Common.{sym, ap, ◌∙◌, arith, ltb, Bool, true, false, subst, length-append}
use Rattle.std.proofs.lemmas.List.{get_or_append_left, get_or-append_right, map-append, drop_more}
use Rattle.std.proofs.lemmas.Bool.{cond_both, cases_lt, ltb-true, ltb-false}
use Rattle.rb_glyph.specs.declared.info.hb_glyph_info_t.{hb_glyph_info_t}
use Rattle.glyph_lists.specs.Parts.{map_range}
use Rattle.glyph_lists.specs.Clusters.{clusters, with_cluster, run_merge, run_start, range_least, widened_start}
use Rattle.glyph_lists.specs.Clusters.{widened_end, IsMonotone, IsCoarse, zero_glyph}
use Rattle.glyph_lists.specs.declared.glyph_flags.TheConstants.{BREAK_BITS}
use Rattle.glyph_lists.proofs.DeletionCases.{length_some, lowers_parts, merges_parts}
use Rattle.glyph_lists.specs.Deletion.{OutAndRest, deletion, merge_or_mark, with_trailing_run, last_cluster, is_not_empty}
use Rattle.glyph_lists.specs.Deletion.{lowers_run, merges_next}
use Rattle.glyph_lists.proofs.PartsLemmas.{length-map_range, map_range-before, map_range-within, map_range-append}
use Rattle.glyph_lists.proofs.PartsLemmas.{map_range_cut}
use Rattle.glyph_lists.proofs.ClustersLemmas.{length-clusters, range_least_more, range_least_one}
use Rattle.glyph_lists.proofs.RunsLemmas.{run_start-le, run_start_more, run_start-append, widened_start_run}
use Rattle.glyph_lists.proofs.RunsLemmas.{widened_end_plain}
use Rattle.glyph_lists.proofs.MergesLemmas.{cluster-with_cluster, with_cluster_others}
use Rattle.glyph_lists.proofs.RunMergeLemmas.{map_range_is_run_merge}
use Rattle.glyph_lists.proofs.LengthsLemmas.{length-merge_or_mark}
use Rattle.glyph_laws.proofs.OrderLemmas.{run_merge_keeps_order, run_merge_keeps_coarse}
use Rattle.glyph_laws.proofs.ReadingsLemmas.{Reading, at, reading_dropped, reading_alike, monotone_reading}
use Rattle.glyph_laws.proofs.ReadingsLemmas.{coarse_reading}
use Rattle.glyph_laws.proofs.MarksLemmas.{reading_marked_part}

-- two maps that differ in flags alone
retold_alike : (c v w : ℕ) (l r : List hb_glyph_info_t) (a : ℕ) → a ≤ length l
    → Reading (map_range (with_cluster c v) l a (length l) ++ r) (map_range (with_cluster c w) l a (length l) ++ r)
retold_alike c v w l r a in_l =
    let xs = map_range (with_cluster c v) l a (length l) in
    let ys = map_range (with_cluster c w) l a (length l) in
    let n : length xs ≡ length l = length-map_range (with_cluster c v) l a (length l) in_l in
    let n2 : length ys ≡ length l = length-map_range (with_cluster c w) l a (length l) in_l in
    let each : (f : hb_glyph_info_t → ℕ) → ((g : hb_glyph_info_t) → f (with_cluster c w g) ≡ f (with_cluster c v g))
    → (j : ℕ) → f (at (ys ++ r) j) ≡ f (at (xs ++ r) j) = λ f same j.
    elim (cases_lt j (length l)) [
      | inl lt ↦
          ap f (get_or_append_left ys r zero_glyph j (omega arith))
          ∙ elim (cases_lt j a) [
            | inl low ↦ ap f (map_range-before (with_cluster c w) l a (length l) in_l j zero_glyph low lt
                ∙ sym (map_range-before (with_cluster c v) l a (length l) in_l j zero_glyph low lt))
            | inr high ↦ ap f (map_range-within (with_cluster c w) l a (length l) in_l j zero_glyph high lt lt)
                ∙ same (at l j)
                ∙ ap f (sym (map_range-within (with_cluster c v) l a (length l) in_l j zero_glyph high lt lt))
          ]
          ∙ ap f (sym (get_or_append_left xs r zero_glyph j (omega arith)))
      | inr ge ↦ ap f (get_or-append_right ys r (length l) j zero_glyph n2 ge
          ∙ sym (get_or-append_right xs r (length l) j zero_glyph n ge))
    ] in
    reading_alike (xs ++ r) (ys ++ r) (omega (arith, length-append xs r, length-append ys r))
    (λ j _. each (λ g. g.cluster) (λ g. cluster-with_cluster c w g ∙ sym (cluster-with_cluster c v g)) j)
    (λ j _. each (λ g. g.var2) (λ g. (with_cluster_others c w g).2 ∙ sym (with_cluster_others c v g).2) j)

-- the merge of the last glyph of `out` with a head of a lower cluster
run_merge-back : (out : List hb_glyph_info_t) (x : hb_glyph_info_t) (rest : List hb_glyph_info_t) → 0 < length out
    → x.cluster < last_cluster out
    → run_merge (out ++ x ∷ rest) (length out - 1) (length out + 1) 0
    ≡ map_range (with_cluster x.cluster 0) out (run_start (clusters out) (last_cluster out) 0 (length out)) (length out)
    ++ with_cluster x.cluster 0 x ∷ rest
unfolding last_cluster
run_merge-back out x rest some low =
    let n = length out in
    let l = out ++ x ∷ rest in
    let cs = clusters l in
    let c = x.cluster in
    let last = get_or (clusters out) (n - 1) 0 in
    let f = with_cluster c 0 in
    let cut : cs ≡ clusters out ++ c ∷ clusters rest = map-append (λ g. g.cluster) out (x ∷ rest) in
    let no : length (clusters out) ≡ n = length-clusters out in
    let nl : length cs ≡ n + suc (length rest) = length-clusters l ∙ length-append out (x ∷ rest) in
    let at_last : get_or cs (n - 1) 0 ≡ last = ap (λ z. get_or z (n - 1) 0) cut
    ∙ get_or_append_left (clusters out) (c ∷ clusters rest) 0 (n - 1) (omega arith) in
    let z : n - n ≡ 0 = omega arith in
    let at_x : get_or cs n 0 ≡ c = ap (λ z. get_or z n 0) cut
    ∙ get_or-append_right (clusters out) (c ∷ clusters rest) n n 0 no (omega arith)
    ∙ ap (λ k. get_or (c ∷ clusters rest) k 0) z in
    let i : n - 1 + 1 ≡ n = omega arith in
    let one : range_least cs (n - 1) n ≡ last =
    ap (range_least cs (n - 1)) (sym i) ∙ range_least_one cs (n - 1) (omega arith) ∙ at_last in
    let m : c ≡ range_least cs (n - 1) (n + 1) =
    omega (arith, range_least_more cs (n - 1) n (omega arith) (omega arith)) in
    let same_run : run_start cs last 0 n ≡ run_start (clusters out) last 0 n =
    ap (λ z. run_start z last 0 n) cut ∙ run_start-append (clusters out) (c ∷ clusters rest) last n (omega arith) in
    let a = run_start (clusters out) last 0 n in
    let start : a ≡ widened_start cs (n - 1) (n + 1) 0 =
    sym (widened_start_run cs (n - 1) (n + 1) 0 (λ e. omega arith) ∙ ap (λ k. run_start cs k 0 (n - 1)) at_last
    ∙ run_start_more cs last 0 n (omega arith) (omega arith) at_last ∙ same_run) in
    let j : n + 1 - 1 ≡ n = omega arith in
    let end : n + 1 ≡ widened_end cs (n - 1) (n + 1) =
    sym (widened_end_plain cs (n - 1) (n + 1) (ap (λ k. get_or cs k 0) j ∙ at_x ∙ m)) in
    let le : a ≤ n = run_start-le (clusters out) last 0 n in
    let z1 : a - n ≡ 0 = omega arith in
    let z2 : n + 1 - n ≡ 1 = omega arith in
    let k : min (n + 1) n ≡ n = omega arith in
    sym (map_range_is_run_merge l (n - 1) (n + 1) 0 c a (n + 1) (omega arith) m start end)
    ∙ map_range-append f out (x ∷ rest) a (n + 1) (omega arith)
    ∙ ap (λ b. map_range f out a (n + 1) ++ map_range f (x ∷ rest) b (n + 1 - n)) z1
    ∙ ap (λ b. map_range f out a (n + 1) ++ map_range f (x ∷ rest) 0 b) z2
    ∙ ap (λ s. s ++ f x ∷ rest) (sym (map_range_cut f out a (n + 1) (omega arith)) ∙ ap (λ b. map_range f out a b) k)

-- ---- what readings and merges keep, a merge keeps

module _ (P : List hb_glyph_info_t → Type 0) (floor : ℕ)
    (reads : (xs ys : List hb_glyph_info_t) → Reading xs ys → P xs → P ys)
    (merges : (l : List hb_glyph_info_t) (p q : ℕ) → q ≤ length l → P l → P (run_merge l p q floor)) where
  pub merge_or_mark_keeps : (any_order : Bool) (l : List hb_glyph_info_t) (p q : ℕ) → q ≤ length l → P l
      → P (merge_or_mark any_order l p q floor)
  unfolding merge_or_mark
  merge_or_mark_keeps true l p q in_l h =
      cond_both (ltb (q - p) 2) _ _ P (λ _. h)
      (λ two. let far = ltb-false _ _ two in reads _ _ (reading_marked_part BREAK_BITS l p q (omega arith)) h)
  merge_or_mark_keeps false l p q in_l h = merges l p q in_l h

-- ---- what readings and merges keep, deletion keeps

module _ (P : List hb_glyph_info_t → Type 0)
    (reads : (xs ys : List hb_glyph_info_t) → Reading xs ys → P xs → P ys)
    (merges : (l : List hb_glyph_info_t) (p q : ℕ) → q ≤ length l → P l → P (run_merge l p q 0)) where
  retold_keeps : (out : List hb_glyph_info_t) (x : hb_glyph_info_t) (rest : List hb_glyph_info_t) → P (out ++ x ∷ rest)
      → 0 < length out → x.cluster < last_cluster out → P (with_trailing_run x.cluster x.mask out ++ rest)
  unfolding with_trailing_run
  retold_keeps out x rest h some low =
      let a = run_start (clusters out) (last_cluster out) 0 (length out) in
      let l2 : P (map_range (with_cluster x.cluster 0) out a (length out) ++ with_cluster x.cluster 0 x ∷ rest) =
      subst P (run_merge-back out x rest some low)
      (merges _ (length out - 1) (length out + 1) (omega (arith, length-append out (x ∷ rest))) h) in
      reads _ _ (retold_alike x.cluster 0 x.mask out rest a
      (run_start-le (clusters out) (last_cluster out) 0 (length out)))
      (reads _ _ (reading_dropped (map_range (with_cluster x.cluster 0) out a (length out)) (with_cluster x.cluster 0 x)
      rest) l2)

  -- the current glyph and the next one are merged, and the current glyph then goes
  next_keeps : (any_order : Bool) (out : List hb_glyph_info_t) (x : hb_glyph_info_t) (rest : List hb_glyph_info_t)
      → is_not_empty out ≡ false → is_not_empty rest ≡ true
      → P (out ++ x ∷ rest) → P (out ++ drop 1 (merge_or_mark any_order (x ∷ rest) 0 2 0))
  unfolding is_not_empty
  next_keeps any_order [] x [] e e2 h = cc
  next_keeps any_order [] x (y ∷ ys) e e2 h =
      let l = merge_or_mark any_order (x ∷ y ∷ ys) 0 2 0 in
      let n : length l ≡ suc (suc (length ys)) = length-merge_or_mark any_order (x ∷ y ∷ ys) 0 2 0 in
      let l2 : P (at l 0 ∷ drop 1 l) = subst P (drop_more l 0 zero_glyph (omega arith))
      (merge_or_mark_keeps P 0 reads merges any_order (x ∷ y ∷ ys) 0 2 (omega arith) h) in
      reads _ _ (reading_dropped [] (at l 0) (drop 1 l)) l2
  next_keeps any_order (o ∷ out) x rest e e2 h = cc

  -- over both sides, whether merges change clusters or mark
  pub deletion_keeps : (any_order : Bool) (out : List hb_glyph_info_t) (x : hb_glyph_info_t)
      (rest : List hb_glyph_info_t) → P (out ++ x ∷ rest)
      → P ((deletion any_order out x rest).out ++ (deletion any_order out x rest).rest)
  unfolding deletion
  deletion_keeps any_order out x rest h =
      let Q : OutAndRest → Type 0 = λ d. P (d.out ++ d.rest) in
      let plain : P (out ++ rest) = reads _ _ (reading_dropped out x rest) h in
      cond_both (lowers_run out x rest) _ _ Q
      (λ e. let w = lowers_parts out x rest e in retold_keeps out x rest h (length_some out w.0) (ltb-true _ _ w.1))
      (λ _. cond_both (merges_next out x rest) _ _ Q
      (λ e. let w = merges_parts out x rest e in next_keeps any_order out x rest w.0 w.1 h) (λ _. plain))

-- ---- order and coarse lists stay

pub merged_keeps_order : (any_order : Bool) (l : List hb_glyph_info_t) (p q floor : ℕ) → q ≤ length l → IsMonotone l
    → IsMonotone (merge_or_mark any_order l p q floor)
merged_keeps_order any_order l p q floor =
    merge_or_mark_keeps IsMonotone floor monotone_reading (λ xs a b. run_merge_keeps_order xs a b floor) any_order l p q

pub merged_keeps_coarse : (any_order : Bool) (l : List hb_glyph_info_t) (p q : ℕ) → q ≤ length l → IsCoarse l
    → IsCoarse (merge_or_mark any_order l p q 0)
merged_keeps_coarse = merge_or_mark_keeps IsCoarse 0 coarse_reading run_merge_keeps_coarse

pub deleted_keeps_order : (any_order : Bool) (out : List hb_glyph_info_t) (x : hb_glyph_info_t)
    (rest : List hb_glyph_info_t) → IsMonotone (out ++ x ∷ rest)
    → IsMonotone ((deletion any_order out x rest).out ++ (deletion any_order out x rest).rest)
deleted_keeps_order = deletion_keeps IsMonotone monotone_reading (λ xs a b. run_merge_keeps_order xs a b 0)

pub deleted_keeps_coarse : (any_order : Bool) (out : List hb_glyph_info_t) (x : hb_glyph_info_t)
    (rest : List hb_glyph_info_t) → IsCoarse (out ++ x ∷ rest)
    → IsCoarse ((deletion any_order out x rest).out ++ (deletion any_order out x rest).rest)
deleted_keeps_coarse = deletion_keeps IsCoarse coarse_reading run_merge_keeps_coarse
