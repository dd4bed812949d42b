-- The run merge of a range as a body makes it: from the least cluster and the widened range, and of two glyphs.
use Rattle.std.proofs.Common.{◌≡◌, ℕ, ◌+◌, ◌-◌, ◌<◌, ◌≤◌, List, get_or, set, min, inl, inr, refl, sym, ap, ◌∙◌, arith, length, length-append}
use Rattle.std.proofs.lemmas.Bool.{cases_lt, cond-false, lt-leb}
use Rattle.rb_glyph.specs.declared.info.hb_glyph_info_t.{hb_glyph_info_t}
use Rattle.glyph_lists.specs.Parts.{map_range}
use Rattle.glyph_lists.specs.Clusters.{clusters, with_cluster, run_merge, run_start, run_end}
use Rattle.glyph_lists.specs.Clusters.{range_least, widened_start, widened_end, zero_glyph}
use Rattle.glyph_lists.specs.PairChange.{moved_to}
use Rattle.glyph_lists.proofs.PartsLemmas.{map_range_none, set-map_range_front, map_range_after_first}
use Rattle.glyph_lists.proofs.PartsLemmas.{map_range_to_last}
use Rattle.glyph_lists.proofs.ClustersLemmas.{length-clusters, get_or-clusters, range_least_one, range_least_more}
use Rattle.glyph_lists.proofs.RunsLemmas.{widened_start-le, widened_end-ge, widened_start_plain, widened_start_run}
use Rattle.glyph_lists.proofs.RunsLemmas.{widened_end_plain, widened_end_run, run_end_here, run_end_none}
use Rattle.glyph_lists.proofs.RunsLemmas.{run_start_here, run_start_none, run_start_more, run_start-le, run_end_more, run_end-ge}
use Rattle.glyph_lists.proofs.MergesLemmas.{with_cluster-same}

-- ---- the parts of `run_merge`, as a body finds them

-- with m the least of the range, and a to b the widened range
pub map_range_is_run_merge : (l : List hb_glyph_info_t) (p q floor m a b : ℕ) → p < q → m ≡ range_least (clusters l) p q
    → a ≡ widened_start (clusters l) p q floor → b ≡ widened_end (clusters l) p q
    → map_range (with_cluster m 0) l a b ≡ run_merge l p q floor
unfolding run_merge
map_range_is_run_merge l p q floor m a b some em ea eb =
    ap (λ x. map_range (with_cluster x 0) l a b) em
    ∙ ap (λ x. map_range (with_cluster (range_least (clusters l) p q) 0) l x b) ea
    ∙ ap (λ x. map_range (with_cluster (range_least (clusters l) p q) 0) l (widened_start (clusters l) p q floor) x) eb
    ∙ sym (cond-false _ _ _ (lt-leb q p some))

-- the same of two glyphs, of which one is in the least cluster already: the first, or else the second
pub map_range-after_first : (l : List hb_glyph_info_t) (p floor m b : ℕ) → p + 2 ≤ length l
    → m ≡ range_least (clusters l) p (p + 2)
    → b ≡ widened_end (clusters l) p (p + 2) → (get_or l p zero_glyph).cluster ≡ m
    → map_range (with_cluster m 0) l (p + 1) b ≡ run_merge l p (p + 2) floor
map_range-after_first l p floor m b in_l em eb is =
    let cs = clusters l in
    let past : p < b = omega (arith, widened_end-ge cs p (p + 2)) in
    let first : get_or cs p 0 ≡ range_least cs p (p + 2) = get_or-clusters l p zero_glyph (omega arith) ∙ is ∙ em in
    map_range_after_first (with_cluster m 0) l p b zero_glyph past (omega arith)
    (with_cluster-same m 0 (get_or l p zero_glyph) is)
    ∙ map_range_is_run_merge l p (p + 2) floor m p b (omega arith) em
    (sym (widened_start_plain cs p (p + 2) floor first)) eb

pub map_range-to_last : (l : List hb_glyph_info_t) (p floor m a : ℕ) → p + 2 ≤ length l
    → m ≡ range_least (clusters l) p (p + 2)
    → a ≡ widened_start (clusters l) p (p + 2) floor → ((get_or l p zero_glyph).cluster ≡ m → ⊥)
    → map_range (with_cluster m 0) l a (p + 1) ≡ run_merge l p (p + 2) floor
map_range-to_last l p floor m a in_l em ea off =
    let cs = clusters l in
    let n = length-clusters l in
    let first = get_or-clusters l p zero_glyph (omega arith) in
    let second = get_or-clusters l (p + 1) zero_glyph (omega arith) in
    let e : p + 2 ≡ p + 1 + 1 = omega arith in
    let both : range_least cs p (p + 2) ≡ min (get_or cs p 0) (get_or cs (p + 1) 0) =
    ap (range_least cs p) e ∙ range_least_more cs p (p + 1) (omega arith) (omega arith)
    ∙ ap (λ k. min k (get_or cs (p + 1) 0)) (range_least_one cs p (omega arith)) in
    let last : get_or cs (p + 1) 0 ≡ m = omega (arith, off, both, em, first) in
    let place : p + 2 - 1 ≡ p + 1 = omega arith in
    map_range_to_last (with_cluster m 0) l a (p + 1) zero_glyph (omega (arith, ea, widened_start-le cs p (p + 2) floor))
    (omega arith)
    (with_cluster-same m 0 (get_or l (p + 1) zero_glyph) (sym second ∙ last))
    ∙ ap (map_range (with_cluster m 0) l a) (sym e)
    ∙ map_range_is_run_merge l p (p + 2) floor m a (p + 2) (omega arith) em ea
    (sym (widened_end_plain cs p (p + 2) (ap (λ k. get_or cs k 0) place ∙ last ∙ em)))

-- ---- two glyphs, whose clusters were read

range_least-two : (cs : List ℕ) (p : ℕ) → p + 2 ≤ length cs
    → range_least cs p (p + 2) ≡ min (get_or cs p 0) (get_or cs (p + 1) 0)
range_least-two cs p in_cs =
    let e : p + 2 ≡ p + 1 + 1 = omega arith in
    ap (range_least cs p) e ∙ range_least_more cs p (p + 1) (omega arith) (omega arith)
    ∙ ap (λ k. min k (get_or cs (p + 1) 0)) (range_least_one cs p (omega arith))

-- the second goes to the first's cluster, with its run
pub map_range-rising : (l : List hb_glyph_info_t) (p floor x y b : ℕ) → p + 2 ≤ length l → x ≡ get_or (clusters l) p 0
    → y ≡ get_or (clusters l) (p + 1) 0 → x < y → b ≡ run_end (clusters l) y (p + 2)
    → map_range (with_cluster x 0) l (p + 1) b ≡ run_merge l p (p + 2) floor
map_range-rising l p floor x y b in_l ex ey up eb =
    let cs = clusters l in
    let two = range_least-two cs p (omega (arith, in_l, length-clusters l)) in
    let least : x ≡ range_least cs p (p + 2) = omega (arith, two, ex, ey, up) in
    let place : p + 2 - 1 ≡ p + 1 = omega arith in
    let last : get_or cs (p + 2 - 1) 0 ≡ y = ap (λ k. get_or cs k 0) place ∙ sym ey in
    map_range-after_first l p floor x b in_l least
    (eb ∙ ap (λ k. run_end cs k (p + 2)) (sym last)
    ∙ sym (widened_end_run cs p (p + 2) (λ h. omega (arith, h, last, least, up))))
    (sym (get_or-clusters l p zero_glyph (omega arith)) ∙ sym ex)

-- the first goes to the second's cluster, with its run
pub map_range-falling : (l : List hb_glyph_info_t) (p floor x y a : ℕ) → p + 2 ≤ length l → x ≡ get_or (clusters l) p 0
    → y ≡ get_or (clusters l) (p + 1) 0 → y < x → a ≡ run_start (clusters l) x floor p
    → map_range (with_cluster y 0) l a (p + 1) ≡ run_merge l p (p + 2) floor
map_range-falling l p floor x y a in_l ex ey down ea =
    let cs = clusters l in
    let two = range_least-two cs p (omega (arith, in_l, length-clusters l)) in
    let least : y ≡ range_least cs p (p + 2) = omega (arith, two, ex, ey, down) in
    let first = get_or-clusters l p zero_glyph (omega arith) in
    map_range-to_last l p floor y a in_l least
    (ea ∙ ap (λ k. run_start cs k floor p) ex
    ∙ sym (widened_start_run cs p (p + 2) floor (λ h. omega (arith, h, ex, least, down))))
    (λ h. omega (arith, h, first, ex, down))

-- nothing changes in one cluster
pub run_merge_level : (l : List hb_glyph_info_t) (p floor x : ℕ) → p + 2 ≤ length l → x ≡ get_or (clusters l) p 0
    → x ≡ get_or (clusters l) (p + 1) 0 → l ≡ run_merge l p (p + 2) floor
run_merge_level l p floor x in_l ex ey =
    let cs = clusters l in
    let two = range_least-two cs p (omega (arith, in_l, length-clusters l)) in
    let least : x ≡ range_least cs p (p + 2) = omega (arith, two, ex, ey) in
    let f = with_cluster x 0 in
    let e : p + 2 ≡ p + 1 + 1 = omega arith in
    let place : p + 2 - 1 ≡ p + 1 = omega arith in
    let same = λ (k : ℕ) (h : (get_or l k zero_glyph).cluster ≡ x). with_cluster-same x 0 (get_or l k zero_glyph) h in
    sym (map_range_none f l p)
    ∙ map_range_to_last f l p p zero_glyph (omega arith) (omega arith)
    (same p (sym (get_or-clusters l p zero_glyph (omega arith)) ∙ sym ex))
    ∙ map_range_to_last f l p (p + 1) zero_glyph (omega arith) (omega arith)
    (same (p + 1) (sym (get_or-clusters l (p + 1) zero_glyph (omega arith)) ∙ sym ey))
    ∙ ap (map_range f l p) (sym e)
    ∙ map_range_is_run_merge l p (p + 2) floor x p (p + 2) (omega arith) least
    (sym (widened_start_plain cs p (p + 2) floor (sym ex ∙ least)))
    (sym (widened_end_plain cs p (p + 2) (ap (λ k. get_or cs k 0) place ∙ sym ey ∙ least)))

-- ---- one of the two, where no run of it goes on

map_range-one : (f : hb_glyph_info_t → hb_glyph_info_t) (l : List hb_glyph_info_t) (k : ℕ) → k < length l
    → map_range f l k (k + 1) ≡ set l k (f (get_or l k zero_glyph))
map_range-one f l k in_l =
    sym (ap (λ xs. set xs k (f (get_or l k zero_glyph))) (sym (map_range_none f l (k + 1)))
    ∙ set-map_range_front f l k (k + 1) (f (get_or l k zero_glyph)) zero_glyph (omega arith) in_l refl)

pub run_merge_second : (l : List hb_glyph_info_t) (p floor x y : ℕ) → p + 2 ≤ length l → x ≡ get_or (clusters l) p 0
    → y ≡ get_or (clusters l) (p + 1) 0 → x < y → (p + 2 < length l → get_or (clusters l) (p + 2) 0 ≡ y → ⊥)
    → run_merge l p (p + 2) floor ≡ moved_to x (p + 1) l
run_merge_second l p floor x y in_l ex ey up alone =
    let cs = clusters l in
    let n = length-clusters l in
    let e : p + 2 ≡ p + 1 + 1 = omega arith in
    let end : p + 2 ≡ run_end cs y (p + 2) = elim (cases_lt (p + 2) (length l)) [
      | inl lt ↦ sym (run_end_here cs y (p + 2) (omega (arith, n, lt)) (alone lt))
      | inr ge ↦ sym (run_end_none cs y (p + 2) (omega (arith, n, ge)))
    ] in
    sym (map_range-rising l p floor x y (p + 2) in_l ex ey up end)
    ∙ ap (map_range (with_cluster x 0) l (p + 1)) e ∙ map_range-one (with_cluster x 0) l (p + 1) (omega arith)

pub run_merge_first : (l : List hb_glyph_info_t) (p floor x y : ℕ) → p + 2 ≤ length l → x ≡ get_or (clusters l) p 0
    → y ≡ get_or (clusters l) (p + 1) 0 → y < x → (floor < p → get_or (clusters l) (p - 1) 0 ≡ x → ⊥)
    → run_merge l p (p + 2) floor ≡ moved_to y p l
run_merge_first l p floor x y in_l ex ey down alone =
    let cs = clusters l in
    let n = length-clusters l in
    let start : p ≡ run_start cs x floor p = elim (cases_lt floor p) [
      | inl lt ↦ sym (run_start_here cs x floor p lt (omega (arith, n, in_l)) (alone lt))
      | inr ge ↦ sym (run_start_none cs x floor p ge)
    ] in
    sym (map_range-falling l p floor x y p in_l ex ey down start) ∙ map_range-one (with_cluster y 0) l p (omega arith)

-- ---- one of the two, whose run goes on: the widened range has a third glyph

range_least-pair : (cs : List ℕ) (p q : ℕ) → q ≡ p + 2 → q ≤ length cs
    → range_least cs p q ≡ min (get_or cs p 0) (get_or cs (q - 1) 0)
range_least-pair cs p q pair in_cs =
    let last : p + 1 ≡ q - 1 = omega (arith, pair) in
    ap (range_least cs p) pair ∙ range_least-two cs p (omega (arith, pair, in_cs))
    ∙ ap (λ k. min (get_or cs p 0) (get_or cs k 0)) last

pub widened_by_second : (cs : List ℕ) (p q floor x y : ℕ) → q ≡ p + 2 → q < length cs → x ≡ get_or cs p 0
    → y ≡ get_or cs (q - 1) 0 → x < y → get_or cs q 0 ≡ y → widened_start cs p q floor + 2 < widened_end cs p q
widened_by_second cs p q floor x y pair in_cs ex ey up on =
    let off : get_or cs (q - 1) 0 ≡ range_least cs p q → ⊥ =
    λ h. omega (arith, h, ex, ey, up, range_least-pair cs p q pair (omega (arith, in_cs))) in
    let end = widened_end_run cs p q off ∙ ap (λ k. run_end cs k q) (sym ey) in
    omega (
      arith,
      end,
      run_end_more cs y q in_cs on,
      run_end-ge cs y (q + 1),
      widened_start-le cs p q floor,
    )

pub widened_by_first : (cs : List ℕ) (p q floor x y : ℕ) → q ≡ p + 2 → q ≤ length cs → x ≡ get_or cs p 0
    → y ≡ get_or cs (q - 1) 0 → y < x → floor < p → get_or cs (p - 1) 0 ≡ x
    → widened_start cs p q floor + 2 < widened_end cs p q
widened_by_first cs p q floor x y pair in_cs ex ey down above on =
    let off : get_or cs p 0 ≡ range_least cs p q → ⊥ =
    λ h. omega (arith, h, ex, ey, down, range_least-pair cs p q pair in_cs) in
    let start = widened_start_run cs p q floor off ∙ ap (λ k. run_start cs k floor p) (sym ex) in
    omega (
      arith,
      start,
      run_start_more cs x floor p above (omega arith) on,
      run_start-le cs x floor (p - 1),
      widened_end-ge cs p q,
    )

pub ruleset merges_of_two = (run_merge_second, run_merge_first, run_merge_level, length-append)
