-- Runs of equal numbers, and the ends of a range widened through them.
use Rattle.std.proofs.Common.{◌≡◌, ℕ, ◌+◌, ◌-◌, ◌<◌, ◌≤◌, List, ◌++◌, length, get_or, take, drop, sym, ap, ◌∙◌, arith}
use Rattle.std.proofs.Common.{length-drop, eqb, true, false, Bool, reverse}
use Rattle.std.proofs.lemmas.List.{take-append-le, get_or-drop, get_or-reverse, length-reverse}
use Rattle.std.proofs.lemmas.Bool.{eqb-true, eqb-false, eq-eqb, ne_eqb, cond-true, cond-false, cond_both}
use Rattle.std.proofs.lemmas.List.Sums.{prefix_len_passes, prefix_len_stops, prefix_len-le-length, prefix_len-drop_yes}
use Rattle.std.proofs.lemmas.List.Sums.{prefix_len-drop_no, prefix_len-drop_all, suffix_len-take_yes}
use Rattle.std.proofs.lemmas.List.Sums.{suffix_len-take_no, suffix_len-le-length}
use Rattle.std.specs.List.{suffix_len}
use Rattle.glyph_lists.specs.Parts.{part}
use Rattle.glyph_lists.specs.Clusters.{run_start, run_end, range_least, widened_start, widened_end}
use Rattle.glyph_lists.proofs.PartsLemmas.{length-part, get_or-part}
use Rattle.glyph_lists.proofs.ClustersLemmas.{length-clusters, get_or-clusters, length_clusters-append}

-- ---- where a run ends

-- a run ends where it begins, or later, and in the list
pub run_end-ge : (cs : List ℕ) (c q : ℕ) → q ≤ run_end cs c q
unfolding run_end
run_end-ge cs c q = omega arith

pub run_end-le : (cs : List ℕ) (c q : ℕ) → q ≤ length cs → run_end cs c q ≤ length cs
unfolding run_end
run_end-le cs c q in_cs = omega (arith, prefix_len-le-length (λ d. eqb d c) (drop q cs), length-drop q cs)

-- each place of the run has its number, and the one after it has another
pub get_or-run_end : (cs : List ℕ) (c q k : ℕ) → q ≤ k → k < run_end cs c q → get_or cs k 0 ≡ c
unfolding run_end
get_or-run_end cs c q k from_q in_run =
    let e = prefix_len_passes (λ d. eqb d c) (drop q cs) (k - q) 0 (omega arith) in
    let n : q + (k - q) ≡ k = omega arith in
    ap (λ j. get_or cs j 0) (sym n) ∙ sym (get_or-drop q cs (k - q) 0) ∙ eqb-true _ c e

pub run_end-stops : (cs : List ℕ) (c q : ℕ) → run_end cs c q < length cs → get_or cs (run_end cs c q) 0 ≡ c → ⊥
unfolding run_end
run_end-stops cs c q in_cs is =
    let s = prefix_len_stops (λ d. eqb d c) (drop q cs) 0 (omega (arith, length-drop q cs)) in
    eqb-false _ c s (get_or-drop q cs _ 0 ∙ is)

-- ---- the end of a list

module _ {X : Type 0} (p : X → Bool) (xs : List X) where
  -- the longest suffix that passes passes, and the element before it fails
  pub suffix_passes : (k : ℕ) (d : X) → length xs - suffix_len p xs ≤ k → k < length xs → p (get_or xs k d) ≡ true
  suffix_passes k d in_suffix in_xs =
      let le = suffix_len-le-length p xs in
      let j : length xs - 1 - k < suffix_len p xs = omega arith in
      let n : length xs - 1 - (length xs - 1 - k) ≡ k = omega arith in
      ap (λ m. p (get_or xs m d)) (sym n) ∙ ap p (sym (get_or-reverse xs (length xs - 1 - k) d (omega arith)))
      ∙ prefix_len_passes p (reverse xs) (length xs - 1 - k) d j

  pub suffix_stops : (d : X) → suffix_len p xs < length xs → p (get_or xs (length xs - 1 - suffix_len p xs) d) ≡ false
  suffix_stops d before =
      ap p (sym (get_or-reverse xs (suffix_len p xs) d before))
      ∙ prefix_len_stops p (reverse xs) d (omega (arith, length-reverse xs))

-- ---- where a run begins

-- a run begins where it ends, or before, and not below the floor
pub run_start-le : (cs : List ℕ) (c floor p : ℕ) → run_start cs c floor p ≤ p
unfolding run_start
run_start-le cs c floor p = omega arith

-- each place of the run has its number, and the one before it has another
pub get_or-run_start : (cs : List ℕ) (c floor p k : ℕ) → p ≤ length cs → run_start cs c floor p ≤ k → k < p
    → get_or cs k 0 ≡ c
unfolding run_start
get_or-run_start cs c floor p k in_cs in_run before_p =
    let le = suffix_len-le-length (λ d. eqb d c) (part cs floor p) in
    let n = length-part cs floor p in_cs in
    sym (get_or-part cs floor p k 0 (omega arith) before_p)
    ∙ eqb-true _ c (suffix_passes (λ d. eqb d c) (part cs floor p) (k - floor) 0 (omega arith) (omega arith))

pub run_start-stops : (cs : List ℕ) (c floor p : ℕ) → p ≤ length cs → floor < run_start cs c floor p
    → get_or cs (run_start cs c floor p - 1) 0 ≡ c → ⊥
unfolding run_start
run_start-stops cs c floor p in_cs above is =
    let le = suffix_len-le-length (λ d. eqb d c) (part cs floor p) in
    let n = length-part cs floor p in_cs in
    let k = run_start cs c floor p - 1 in
    let i : length (part cs floor p) - 1 - suffix_len (λ d. eqb d c) (part cs floor p) ≡ k - floor = omega arith in
    eqb-false _ c (suffix_stops (λ d. eqb d c) (part cs floor p) 0 (omega arith))
    (ap (λ j. get_or (part cs floor p) j 0) i ∙ get_or-part cs floor p k 0 (omega arith) (omega arith) ∙ is)

-- ---- a walk along a run

-- a step of the walk up: the run goes on, or ends, or the list does
pub run_end_more : (cs : List ℕ) (c e : ℕ) → e < length cs → get_or cs e 0 ≡ c → run_end cs c (e + 1) ≡ run_end cs c e
unfolding run_end
run_end_more cs c e in_cs is = omega (arith, prefix_len-drop_yes (λ d. eqb d c) cs e 0 in_cs (eq-eqb _ c is))

pub run_end_here : (cs : List ℕ) (c e : ℕ) → e < length cs → (get_or cs e 0 ≡ c → ⊥) → run_end cs c e ≡ e
unfolding run_end
run_end_here cs c e in_cs off = omega (arith, prefix_len-drop_no (λ d. eqb d c) cs e 0 in_cs (ne_eqb _ c off))

pub run_end_none : (cs : List ℕ) (c e : ℕ) → length cs ≤ e → run_end cs c e ≡ e
unfolding run_end
run_end_none cs c e past = omega (arith, prefix_len-drop_all (λ d. eqb d c) cs e past)

-- a step of the walk down: the run goes on, or begins, or the floor is there
pub run_start_more : (cs : List ℕ) (c floor s : ℕ) → floor < s → s ≤ length cs → get_or cs (s - 1) 0 ≡ c
    → run_start cs c floor (s - 1) ≡ run_start cs c floor s
unfolding run_start
run_start_more cs c floor s above in_cs is =
    let n : length (drop floor cs) ≡ length cs - floor = length-drop floor cs in
    let i : floor + (s - floor - 1) ≡ s - 1 = omega arith in
    let j : s - floor - 1 ≡ s - 1 - floor = omega arith in
    let e = suffix_len-take_yes (λ d. eqb d c) (drop floor cs) (s - floor) 0 (omega arith) (omega arith)
    (eq-eqb _ c (get_or-drop floor cs (s - floor - 1) 0 ∙ ap (λ k. get_or cs k 0) i ∙ is)) in
    let e2 = ap (λ k. suffix_len (λ d. eqb d c) (take k (drop floor cs))) j in
    omega (arith, e, e2)

pub run_start_here : (cs : List ℕ) (c floor s : ℕ) → floor < s → s ≤ length cs → (get_or cs (s - 1) 0 ≡ c → ⊥)
    → run_start cs c floor s ≡ s
unfolding run_start
run_start_here cs c floor s above in_cs off =
    let n : length (drop floor cs) ≡ length cs - floor = length-drop floor cs in
    let i : floor + (s - floor - 1) ≡ s - 1 = omega arith in
    let e = suffix_len-take_no (λ d. eqb d c) (drop floor cs) (s - floor) 0 (omega arith) (omega arith)
    (ne_eqb _ c (λ is. off (sym (get_or-drop floor cs (s - floor - 1) 0 ∙ ap (λ k. get_or cs k 0) i) ∙ is))) in
    omega (arith, e)

pub run_start_none : (cs : List ℕ) (c floor s : ℕ) → s ≤ floor → run_start cs c floor s ≡ s
unfolding run_start
run_start_none cs c floor s below =
    let i : s - floor ≡ 0 = omega arith in
    omega (arith, ap (λ k. suffix_len (λ d. eqb d c) (take k (drop floor cs))) i)

-- ---- the widened range, for a body that has read the ends

-- an end in the least cluster stays, and another goes through its run
pub widened_start_plain : (cs : List ℕ) (p q floor : ℕ) → get_or cs p 0 ≡ range_least cs p q
    → widened_start cs p q floor ≡ p
unfolding widened_start
widened_start_plain cs p q floor is = cond-true _ _ _ (eq-eqb _ _ is)

pub widened_start_run : (cs : List ℕ) (p q floor : ℕ) → (get_or cs p 0 ≡ range_least cs p q → ⊥)
    → widened_start cs p q floor ≡ run_start cs (get_or cs p 0) floor p
unfolding widened_start
widened_start_run cs p q floor off = cond-false _ _ _ (ne_eqb _ _ off)

pub widened_end_plain : (cs : List ℕ) (p q : ℕ) → get_or cs (q - 1) 0 ≡ range_least cs p q → widened_end cs p q ≡ q
unfolding widened_end
widened_end_plain cs p q is = cond-true _ _ _ (eq-eqb _ _ is)

pub widened_end_run : (cs : List ℕ) (p q : ℕ) → (get_or cs (q - 1) 0 ≡ range_least cs p q → ⊥)
    → widened_end cs p q ≡ run_end cs (get_or cs (q - 1) 0) q
unfolding widened_end
widened_end_run cs p q off = cond-false _ _ _ (ne_eqb _ _ off)

pub ruleset widenings = (widened_start_plain, widened_start_run, widened_end_plain, widened_end_run)

-- what comes later does not matter to a run
pub run_start-append : (cs ds : List ℕ) (c n : ℕ) → n ≤ length cs → run_start (cs ++ ds) c 0 n ≡ run_start cs c 0 n
unfolding run_start
run_start-append cs ds c n in_cs =
    ap (λ xs. n - suffix_len (λ d. eqb d c) xs) (take-append-le (n - 0) cs ds (omega arith))

-- ---- the bounds of a widened range

-- the range only grows
pub widened_start-le : (cs : List ℕ) (p q floor : ℕ) → widened_start cs p q floor ≤ p
unfolding widened_start
widened_start-le cs p q floor =
    cond_both (eqb (get_or cs p 0) (range_least cs p q)) p (run_start cs (get_or cs p 0) floor p) (λ x. x ≤ p)
    (λ _. omega arith) (λ _. run_start-le cs (get_or cs p 0) floor p)

pub widened_end-ge : (cs : List ℕ) (p q : ℕ) → q ≤ widened_end cs p q
unfolding widened_end
widened_end-ge cs p q =
    cond_both (eqb (get_or cs (q - 1) 0) (range_least cs p q)) q (run_end cs (get_or cs (q - 1) 0) q) (λ x. q ≤ x)
    (λ _. omega arith) (λ _. run_end-ge cs (get_or cs (q - 1) 0) q)

pub widened_end-le : (cs : List ℕ) (p q : ℕ) → q ≤ length cs → widened_end cs p q ≤ length cs
unfolding widened_end
widened_end-le cs p q in_cs =
    cond_both (eqb (get_or cs (q - 1) 0) (range_least cs p q)) q (run_end cs (get_or cs (q - 1) 0) q)
    (λ x. x ≤ length cs) (λ _. in_cs) (λ _. run_end-le cs (get_or cs (q - 1) 0) q in_cs)

-- ---- the widened range, for a body that has read the least number and the ends

pub ruleset walks =
    (length_clusters-append, run_start_more, run_start_here, run_start_none, run_end_more, run_end_here, run_end_none)

-- the same along one list of glyphs
pub ruleset list_walks = (length-clusters, get_or-clusters, run_start_more, run_start_here, run_start_none)
