-- Merges, marks, scans and deletion change clusters and masks alone.
use Rattle.std.proofs.Common.{◌≡◌, ℕ, ◌-◌, ◌≤◌, Bool, List, [], ◌∷◌, ◌++◌, length, take, drop, get_or}
use Rattle.std.proofs.Common.{refl, sym, ap, ◌∙◌, cond, ltb, leb, eqb, arith, not}
use Rattle.std.proofs.lemmas.Bool.{cond_both}
use Rattle.std.proofs.lemmas.List.{map-append, take-append-drop}
use Rattle.std.specs.List.{prefix_len, suffix_len}
use Rattle.rb_glyph.specs.declared.info.hb_glyph_info_t.{hb_glyph_info_t}
use Rattle.glyph_lists.specs.Parts.{part, on_part, map_range}
use Rattle.glyph_lists.specs.Clusters.{clusters, with_cluster, run_merge, run_start, range_least, least}
use Rattle.glyph_lists.specs.Clusters.{widened_start, widened_end}
use Rattle.glyph_lists.specs.Marks.{with_glyph_flags, mark, mark_others, mark_part}
use Rattle.glyph_lists.specs.Scans.{part_scan, scan_least, two_part_scan}
use Rattle.glyph_lists.specs.Deletion.{OutAndRest, deletion, merge_or_mark, with_trailing_run, last_cluster, lowers_run}
use Rattle.glyph_lists.specs.Deletion.{merges_next}
use Rattle.glyph_lists.proofs.PartsLemmas.{map-map_range, map-new_part, map-map_same}
use Rattle.glyph_lists.proofs.RunsLemmas.{run_start-le, widened_start-le, widened_end-ge}
use Rattle.glyph_laws.specs.Cores.{core, cores}

-- the same cores
abbrev pub Same : List hb_glyph_info_t → List hb_glyph_info_t → Type 0
Same l x = cores x ≡ cores l

core-with_cluster : (c w : ℕ) (g : hb_glyph_info_t) → core (with_cluster c w g) ≡ core g
unfolding with_cluster
core-with_cluster c w g =
    cond_both (eqb g.cluster c) _ _ (λ (x : hb_glyph_info_t). core x ≡ core g) (λ _. refl) (λ _. refl)

core-with_glyph_flags : (bits : ℕ) (g : hb_glyph_info_t) → core (with_glyph_flags bits g) ≡ core g
unfolding with_glyph_flags
core-with_glyph_flags bits g = refl

-- ---- marks and scans

cores-mark_others : (bits m : ℕ) (l : List hb_glyph_info_t) → cores (mark_others bits m l) ≡ cores l
cores-mark_others bits m l =
    map-map_same core _
    (λ g. cond_both (eqb g.cluster m) _ _ (λ (x : hb_glyph_info_t). core x ≡ core g) (λ _. refl)
    (λ _. core-with_glyph_flags bits g)) l

pub cores-mark : (bits : ℕ) (l : List hb_glyph_info_t) → cores (mark bits l) ≡ cores l
unfolding mark
cores-mark bits l = cores-mark_others bits (least (clusters l)) l

cores-mark_part : (bits m : ℕ) (r : List hb_glyph_info_t) → cores (mark_part bits m r) ≡ cores r
unfolding mark_part
cores-mark_part bits m r =
    let cs = clusters r in
    let f = with_glyph_flags bits in
    let last = length r - suffix_len (λ c. not (eqb c m)) cs in
    let first = prefix_len (λ c. not (eqb c m)) cs in
    cond_both (eqb (get_or cs 0 0) m) _ _ (Same r)
    (λ _. map-map_range core f (core-with_glyph_flags bits) r last (length r) (omega arith))
    (λ _. cond_both (eqb (get_or cs (length r - 1) 0) m) _ _ (Same r)
    (λ _. map-map_range core f (core-with_glyph_flags bits) r 0 first (omega arith)) (λ _. cores-mark_others bits m r))

pub cores-two_part_scan : (any_order : Bool) (bits k : ℕ) (r : List hb_glyph_info_t)
    → cores (two_part_scan any_order bits k r) ≡ cores r
unfolding two_part_scan
cores-two_part_scan any_order bits k r =
    let m = scan_least any_order (take k r) (drop k r) in
    let one = λ (x : List hb_glyph_info_t).
    cond_both any_order _ _ (Same x) (λ _. cores-mark_others bits m x) (λ _. cores-mark_part bits m x) in
    map-append core (part_scan any_order bits m (take k r)) (part_scan any_order bits m (drop k r))
    ∙ ap (λ (x : List hb_glyph_info_t). x ++ cores (part_scan any_order bits m (drop k r))) (one (take k r))
    ∙ ap (λ (x : List hb_glyph_info_t). cores (take k r) ++ x) (one (drop k r))
    ∙ sym (map-append core (take k r) (drop k r)) ∙ ap cores (take-append-drop k r)

pub cores-scanned_part : (any_order : Bool) (bits k : ℕ) (l : List hb_glyph_info_t) (p q : ℕ) → p ≤ q
    → cores (on_part (two_part_scan any_order bits k) l p q) ≡ cores l
cores-scanned_part any_order bits k l p q up =
    map-new_part core l (two_part_scan any_order bits k (part l p q)) p q up
    (cores-two_part_scan any_order bits k (part l p q))

pub cores-flagged_part : (bits : ℕ) (l : List hb_glyph_info_t) (p q : ℕ) → p ≤ q
    → cores (map_range (with_glyph_flags bits) l p q) ≡ cores l
cores-flagged_part bits l p q up = map-map_range core (with_glyph_flags bits) (core-with_glyph_flags bits) l p q up

-- ---- merges

pub cores-run_merge : (l : List hb_glyph_info_t) (p q floor : ℕ) → p ≤ q → cores (run_merge l p q floor) ≡ cores l
unfolding run_merge
cores-run_merge l p q floor up =
    let cs = clusters l in
    let f = with_cluster (range_least cs p q) 0 in
    let a = widened_start cs p q floor in
    let b = widened_end cs p q in
    cond_both (leb q p) l (map_range f l a b) (Same l) (λ _. refl)
    (λ _. map-map_range core f (core-with_cluster (range_least cs p q) 0) l a b
    (omega (arith, widened_start-le cs p q floor, widened_end-ge cs p q)))

pub cores-merge_or_mark : (any_order : Bool) (l : List hb_glyph_info_t) (p q floor : ℕ) → p ≤ q
    → cores (merge_or_mark any_order l p q floor) ≡ cores l
unfolding merge_or_mark
cores-merge_or_mark any_order l p q floor up =
    let m = mark 3 (part l p q) in
    let new = take p l ++ m ++ drop q l in
    cond_both any_order (cond (ltb (q - p) 2) l new) (run_merge l p q floor) (Same l)
    (λ _. cond_both (ltb (q - p) 2) l new (Same l) (λ _. refl)
    (λ _. map-new_part core l m p q up (cores-mark 3 (part l p q))))
    (λ _. cores-run_merge l p q floor up)

-- ---- deletion

-- the list without its head, after a map
cores_dropped : (l : List hb_glyph_info_t) (x : hb_glyph_info_t) (rest : List hb_glyph_info_t)
    → cores l ≡ cores (x ∷ rest) → cores (drop 1 l) ≡ cores rest
cores_dropped [] x rest e = cc
cores_dropped (g ∷ l) x rest e = ap (λ (z : List hb_glyph_info_t). drop 1 z) e

pub cores-deletion : (any_order : Bool) (out : List hb_glyph_info_t) (x : hb_glyph_info_t) (rest : List hb_glyph_info_t)
    → (cores (deletion any_order out x rest).out ≡ cores out) × (cores (deletion any_order out x rest).rest ≡ cores rest)
unfolding deletion with_trailing_run
cores-deletion any_order out x rest =
    let Q : OutAndRest → Type 0 = λ d. (cores d.out ≡ cores out) × (cores d.rest ≡ cores rest) in
    let a = run_start (clusters out) (last_cluster out) 0 (length out) in
    cond_both (lowers_run out x rest) _ _ Q
    (λ low. (
      map-map_range core (with_cluster x.cluster x.mask) (core-with_cluster x.cluster x.mask) out a (length out)
          (run_start-le (clusters out) (last_cluster out) 0 (length out)),
      refl,
    ))
    (λ _. cond_both (merges_next out x rest) _ _ Q
    (λ more. (
      refl,
      cores_dropped (merge_or_mark any_order (x ∷ rest) 0 2 0) x rest
          (cores-merge_or_mark any_order (x ∷ rest) 0 2 0 (omega arith)),
    ))
    (λ _. (refl, refl)))
