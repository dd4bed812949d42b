-- The head of the input after a merge of its first glyphs that changes no glyph behind them.
use Rattle.std.proofs.Common.{[], ◌≡◌, ℕ, ◌+◌, ◌-◌, ◌<◌, ◌≤◌, inl, inr, Bool, false, List, ◌++◌, length, get_or, take}
use Rattle.std.proofs.Common.{drop, min, refl, sym, ap, ◌∙◌, arith, length-append, subst}
use Rattle.std.proofs.lemmas.Bool.{cases_lt}
use Rattle.std.proofs.lemmas.List.{get_or-append_right}
use Rattle.std.proofs.Math.Seq.{take-append_seam, drop-append_seam}
use Rattle.rb_glyph.specs.declared.info.hb_glyph_info_t.{hb_glyph_info_t}
use Rattle.glyph_lists.specs.Parts.{map_range}
use Rattle.glyph_lists.specs.Clusters.{clusters, range_least, widened_start, widened_end, with_cluster, zero_glyph}
use Rattle.glyph_lists.specs.MergedHead.{LeavesHead, front_merged}
use Rattle.glyph_lists.proofs.PartsLemmas.{map_range-within, map_range_past, map_range_none, drop-map_range}
use Rattle.glyph_lists.proofs.ClustersLemmas.{length_clusters-append, get_or-clusters, range_least_one}
use Rattle.glyph_lists.proofs.ClustersLemmas.{range_least_last}
use Rattle.glyph_lists.proofs.RunsLemmas.{run_start_here, run_start_none, run_end_here, run_end_none}
use Rattle.glyph_lists.proofs.RunsLemmas.{widened_start_plain, widened_start_run, widened_end_plain, widened_end_run}
use Rattle.glyph_lists.proofs.MergesLemmas.{with_cluster-same}
use Rattle.glyph_lists.proofs.RunMergeLemmas.{map_range_is_run_merge}
use Rattle.glyph_lists.proofs.SidesLemmas.{take-map_range, drop-map_range_input, merge_or_mark_merges}
use Rattle.glyph_lists.proofs.SidesLemmas.{merge_or_mark_short}

-- ---- fewer than two glyphs

front_merged-short : (any_order : Bool) (n : ℕ) (out input : List hb_glyph_info_t) → n < 2 → n ≤ length input
    → front_merged any_order n out input ≡ out ++ input
front_merged-short any_order n out input short within =
    merge_or_mark_short any_order (out ++ input) (length out) (length out + n) 0 (omega arith)
    (omega (arith, length-append out input))

pub short_leaves : (any_order : Bool) (n : ℕ) (out input : List hb_glyph_info_t) → n < 2 → n ≤ length input
    → LeavesHead any_order n out input (get_or input 0 zero_glyph)
short_leaves any_order n out input short within =
    let e = front_merged-short any_order n out input short within in
    let rest = ap (drop (length out)) e ∙ drop-append_seam out input in
    record {
      before = ap (take (length out)) e ∙ take-append_seam out input;
      head = ap (λ l. get_or l 0 zero_glyph) rest;
      behind = ap (drop n) rest;
      unmarked = λ _. short;
    }

-- ---- two glyphs

module _ (out input : List hb_glyph_info_t) (two : 2 ≤ length input) where
  abbrev n : ℕ
  n = length out

  abbrev l : List hb_glyph_info_t
  l = out ++ input

  abbrev cs : List ℕ
  cs = clusters l

  abbrev c : ℕ → ℕ
  c k = (get_or input k zero_glyph).cluster

  long : length cs ≡ n + length input
  long = length_clusters-append out input

  at : (k : ℕ) → k < length input → get_or cs (n + k) 0 ≡ c k
  at k h =
      let i : n + k - n ≡ k = omega arith in
      get_or-clusters l (n + k) zero_glyph (omega (arith, length-append out input))
      ∙ ap {A = hb_glyph_info_t} (λ g. g.cluster) (get_or-append_right out input n (n + k) zero_glyph refl (omega arith)
      ∙ ap (λ j. get_or input j zero_glyph) i)

  first : get_or cs n 0 ≡ c 0
  first = let i : n ≡ n + 0 = omega arith in ap (λ j. get_or cs j 0) i ∙ at 0 (omega arith)

  second : get_or cs (n + 2 - 1) 0 ≡ c 1
  second = let i : n + 2 - 1 ≡ n + 1 = omega arith in ap (λ j. get_or cs j 0) i ∙ at 1 (omega arith)

  least_of_two : range_least cs n (n + 2) ≡ min (c 0) (c 1)
  least_of_two =
      let i : n + 2 - 1 ≡ n + 1 = omega arith in
      range_least_last cs n (n + 2) (omega arith) (omega (arith, long))
      ∙ ap (λ x. min x (get_or cs (n + 2 - 1) 0)) (ap (range_least cs n) i ∙ range_least_one cs n (omega (arith, long))
      ∙ first)
      ∙ ap (min (c 0)) second

  -- the range itself is what changes
  pair_leaves : (m : ℕ) → m ≡ range_least cs n (n + 2) → n ≡ widened_start cs n (n + 2) 0
      → n + 2 ≡ widened_end cs n (n + 2)
      → LeavesHead false 2 out input (with_cluster m 0 (get_or input 0 zero_glyph))
  pair_leaves m least start end =
      let f = with_cluster m 0 in
      let up : n ≤ n + 2 = omega arith in
      let e : front_merged false 2 out input ≡ map_range f l n (n + 2) =
      merge_or_mark_merges false l n (n + 2) 0 refl
      ∙ sym (map_range_is_run_merge l n (n + 2) 0 m n (n + 2) (omega arith) least start end) in
      let none : n - n ≡ 0 = omega arith in
      let some : n + 2 - n ≡ 2 = omega arith in
      let rest : drop n (front_merged false 2 out input) ≡ map_range f input 0 2 =
      ap (drop n) e ∙ drop-map_range_input f out input n (n + 2) up
      ∙ ap (λ k. map_range f input k (n + 2 - n)) none ∙ ap (map_range f input 0) some in
      record {
        before =
            ap (take n) e ∙ take-map_range f out input n (n + 2) up ∙ map_range_past f out n (n + 2) up (omega arith);
        head = ap (λ xs. get_or xs 0 zero_glyph) rest
            ∙ map_range-within f input 0 2 (omega arith) 0 zero_glyph (omega arith) (omega arith) (omega arith);
        behind = ap (drop 2) rest ∙ drop-map_range f input 2 0 2 (omega arith) two ∙ map_range_none f (drop 2 input) 0;
        unmarked = λ e. cc;
      }

  -- the first cluster is the least, and the run of the second, where it is another, ends there
  pub rising_leaves : c 0 ≤ c 1 → (c 0 < c 1 → 2 < length input → c 2 ≡ c 1 → ⊥)
      → LeavesHead false 2 out input (get_or input 0 zero_glyph)
  rising_leaves up ends =
      let least : range_least cs n (n + 2) ≡ c 0 = omega (arith, least_of_two) in
      let start = widened_start_plain cs n (n + 2) 0 (first ∙ sym least) in
      let end : widened_end cs n (n + 2) ≡ n + 2 = elim (cases_lt (c 0) (c 1)) [
        | inr same ↦ widened_end_plain cs n (n + 2) (second ∙ omega (arith, least))
        | inl lt ↦
            widened_end_run cs n (n + 2) (λ e. let x : c 1 ≡ c 0 = sym second ∙ e ∙ least in omega arith)
            ∙ elim (cases_lt 2 (length input)) [
              | inl more ↦ run_end_here cs (get_or cs (n + 2 - 1) 0) (n + 2) (omega (arith, long))
                  (λ e. ends lt more (sym (at 2 more) ∙ e ∙ second))
              | inr all ↦ run_end_none cs (get_or cs (n + 2 - 1) 0) (n + 2) (omega (arith, long))
            ]
      ] in
      let g = get_or input 0 zero_glyph in
      let is : with_cluster (c 0) 0 g ≡ g = with_cluster-same (c 0) 0 g refl in
      subst (LeavesHead false 2 out input) is (pair_leaves (c 0) (sym least) (sym start) (sym end))

  -- the second cluster is the least, and the run of the first begins there
  pub falling_leaves : get_or cs (n + 1) 0 < get_or cs n 0 → (0 < n → get_or cs (n - 1) 0 ≡ get_or cs n 0 → ⊥)
      → LeavesHead false 2 out input (with_cluster (c 1) 0 (get_or input 0 zero_glyph))
  falling_leaves down begins =
      let lower : c 1 < c 0 = omega (arith, first, at 1 (omega arith)) in
      let least : range_least cs n (n + 2) ≡ c 1 = omega (arith, least_of_two) in
      let end = widened_end_plain cs n (n + 2) (second ∙ sym least) in
      let start : widened_start cs n (n + 2) 0 ≡ n =
      widened_start_run cs n (n + 2) 0 (λ e. let x : c 0 ≡ c 1 = sym first ∙ e ∙ least in omega arith)
      ∙ elim (cases_lt 0 n) [
        | inl some ↦ run_start_here cs (get_or cs n 0) 0 n some (omega (arith, long)) (begins some)
        | inr none ↦ run_start_none cs (get_or cs n 0) 0 n none
      ] in
      pair_leaves (c 1) (sym least) (sym start) (sym end)

-- a cluster that is read of the input alone
pub get_or-input_alone : (out input : List hb_glyph_info_t) (k : ℕ) → out ≡ [] → k < length input
    → get_or (clusters (out ++ input)) k 0 ≡ (get_or input k zero_glyph).cluster
get_or-input_alone out input k none within =
    ap (λ xs. get_or (clusters (xs ++ input)) k 0) none ∙ get_or-clusters input k zero_glyph within
