-- Where no run goes on from one list into another, a merge of a range in one of them stays there.
use Rattle.std.proofs.Common.{◌≡◌, ℕ, zero, suc, ◌+◌, ◌-◌, ◌<◌, ◌≤◌, inl, inr, List, ◌++◌, length, get_or, take, drop}
use Rattle.std.proofs.Common.{refl, sym, ap, ◌∙◌, arith, eqb, Bool, true, false, length-append, length-drop, cond}
use Rattle.std.specs.List.{prefix_len, suffix_len}
use Rattle.std.proofs.lemmas.Bool.{cases_lt, cases_Bool, cond-false, lt-leb, eqb-true, eqb-false}
use Rattle.std.proofs.lemmas.List.{take-append-le, drop-append-le, get_or_append_left, get_or-append_right}
use Rattle.std.proofs.Math.Seq.{drop-append-add}
use Rattle.rb_glyph.specs.declared.info.hb_glyph_info_t.{hb_glyph_info_t}
use Rattle.glyph_lists.specs.Parts.{part, map_range}
use Rattle.glyph_lists.specs.Clusters.{clusters, least, run_start, run_end, range_least, widened_start, widened_end}
use Rattle.glyph_lists.specs.Clusters.{run_merge, with_cluster, NoRunCrosses}
use Rattle.glyph_lists.proofs.MergesLemmas.{run_merge_short, length-run_merge}
use Rattle.glyph_lists.proofs.SidesLemmas.{same_out, same_input, cut_out, cut_input}
use Rattle.glyph_lists.proofs.PartsLemmas.{map_range-append, map_range_past, map_range_none}
use Rattle.glyph_lists.proofs.ClustersLemmas.{clusters-append, length-clusters}
use Rattle.glyph_lists.proofs.RunsLemmas.{run_start_more, run_start_here, run_start_none, run_end_more, run_end_here}
use Rattle.glyph_lists.proofs.RunsLemmas.{run_end_none, widened_start-le, widened_end-ge, widened_end-le}

-- ---- two lists of numbers

cond-add : (b : Bool) (n x y : ℕ) → cond b (n + x) (n + y) ≡ n + cond b x y
cond-add true n x y = refl
cond-add false n x y = refl

module _ (cs ds : List ℕ) (apart : NoRunCrosses cs ds) (n : ℕ) (len : length cs ≡ n) where
  abbrev all : List ℕ
  all = cs ++ ds

  at_left : (k : ℕ) → k < n → get_or all k 0 ≡ get_or cs k 0
  at_left k h = get_or_append_left cs ds 0 k (omega arith)

  at_right : (k : ℕ) → get_or all (n + k) 0 ≡ get_or ds k 0
  at_right k =
      let j : n + k - n ≡ k = omega arith in
      get_or-append_right cs ds n (n + k) 0 len (omega arith) ∙ ap (λ i. get_or ds i 0) j

  -- the first number of the second list is not the last of the first
  differs : 0 < n → 0 < length ds → get_or cs (n - 1) 0 ≡ get_or ds 0 0 → ⊥
  differs has some e = apart (omega arith) some (ap (λ k. get_or cs (k - 1) 0) len ∙ e)

  -- ---- a range in the second list

  -- a run in it begins there
  start_right : (c floor k : ℕ) → k ≤ length ds → 0 < length ds → (k ≡ 0 → c ≡ get_or ds 0 0)
      → run_start all c floor (n + k) ≡ n + run_start ds c (floor - n) k
  start_right c floor zero within some is =
      let here : run_start ds c (floor - n) 0 ≡ 0 = run_start_none ds c (floor - n) 0 (omega arith) in
      let e : run_start all c floor n ≡ n = elim (cases_lt floor n) [
        | inl lt ↦ run_start_here all c floor n lt (omega (arith, length-append cs ds))
            (λ x. differs (omega arith) some (sym (at_left (n - 1) (omega arith)) ∙ x ∙ is refl))
        | inr ge ↦ run_start_none all c floor n ge
      ] in
      let z : n + 0 ≡ n = omega arith in
      ap (run_start all c floor) z ∙ e ∙ omega (arith, here)
  start_right c floor (suc k) within some is =
      let e : n + suc k - 1 ≡ n + k = omega arith in
      let e2 : suc k - 1 ≡ k = omega arith in
      let w : n + suc k ≤ length all = omega (arith, length-append cs ds) in
      elim (cases_lt floor (n + suc k)) [
        | inr ge ↦ run_start_none all c floor (n + suc k) ge
            ∙ ap (λ x. n + x) (sym (run_start_none ds c (floor - n) (suc k) (omega arith)))
        | inl lt ↦ elim (cases_Bool (eqb (get_or ds k 0) c)) [
          | inl is_c ↦
              let same : get_or ds k 0 ≡ c = eqb-true _ c is_c in
              let l = run_start_more all c floor (n + suc k) lt w (ap (λ i. get_or all i 0) e ∙ at_right k ∙ same) in
              let r =
              run_start_more ds c (floor - n) (suc k) (omega arith) within (ap (λ i. get_or ds i 0) e2 ∙ same) in
              let down = start_right c floor k (omega arith) some (λ z. sym same ∙ ap (λ i. get_or ds i 0) z) in
              sym l ∙ ap (run_start all c floor) e ∙ down
              ∙ ap (λ x. n + x) (sym (ap (run_start ds c (floor - n)) e2) ∙ r)
          | inr not_c ↦
              let off : get_or ds k 0 ≡ c → ⊥ = eqb-false _ c not_c in
              run_start_here all c floor (n + suc k) lt w
              (λ x. off (sym (at_right k) ∙ sym (ap (λ i. get_or all i 0) e) ∙ x))
              ∙ ap (λ x. n + x) (sym (run_start_here ds c (floor - n) (suc k) (omega arith) within
              (λ x. off (sym (ap (λ i. get_or ds i 0) e2) ∙ x))))
        ]
      ]

  drop_right : (k : ℕ) → drop (n + k) all ≡ drop k ds
  drop_right k = ap (λ m. drop (m + k) all) (sym len) ∙ drop-append-add cs ds k

  least_right : (a b : ℕ) → range_least all (n + a) (n + b) ≡ range_least ds a b
  unfolding range_least
  least_right a b =
      let e : n + b - (n + a) ≡ b - a = omega arith in
      ap (λ k. least (take k (drop (n + a) all))) e ∙ ap (λ xs. least (take (b - a) xs)) (drop_right a)

  end_right : (c q : ℕ) → run_end all c (n + q) ≡ n + run_end ds c q
  unfolding run_end
  end_right c q = omega (arith, ap (λ xs. prefix_len (λ d. eqb d c) xs) (drop_right q))

  pub widened_start_right : (a b floor : ℕ) → a < b → b ≤ length ds
      → widened_start all (n + a) (n + b) floor ≡ n + widened_start ds a b (floor - n)
  unfolding widened_start
  widened_start_right a b floor some within =
      let F : ℕ → ℕ → ℕ = λ c m. cond (eqb c m) (n + a) (run_start all c floor (n + a)) in
      let c = get_or ds a 0 in
      let t = eqb c (range_least ds a b) in
      ap (λ x. F x (range_least all (n + a) (n + b))) (at_right a) ∙ ap (F c) (least_right a b)
      ∙ ap (cond t (n + a)) (start_right c floor a (omega arith) (omega arith) (λ z. ap (λ i. get_or ds i 0) z))
      ∙ cond-add t n a (run_start ds c (floor - n) a)

  pub widened_end_right : (a b : ℕ) → a < b → b ≤ length ds → widened_end all (n + a) (n + b) ≡ n + widened_end ds a b
  unfolding widened_end
  widened_end_right a b some within =
      let F : ℕ → ℕ → ℕ = λ c m. cond (eqb c m) (n + b) (run_end all c (n + b)) in
      let e : n + b - 1 ≡ n + (b - 1) = omega arith in
      let c = get_or ds (b - 1) 0 in
      let t = eqb c (range_least ds a b) in
      ap (λ i. F (get_or all i 0) (range_least all (n + a) (n + b))) e
      ∙ ap (λ x. F x (range_least all (n + a) (n + b))) (at_right (b - 1)) ∙ ap (F c) (least_right a b)
      ∙ ap (cond t (n + b)) (end_right c b) ∙ cond-add t n b (run_end ds c b)

  pub least_in_right : (a b : ℕ) → range_least all (n + a) (n + b) ≡ range_least ds a b
  least_in_right = least_right

  -- ---- a range in the first list

  part_left : (a b : ℕ) → a ≤ n → b ≤ n → part all a b ≡ part cs a b
  part_left a b h h2 =
      ap (take (b - a)) (drop-append-le a cs ds (omega arith))
      ∙ take-append-le (b - a) (drop a cs) ds (omega (arith, length-drop a cs))

  start_left : (c floor p : ℕ) → p ≤ n → run_start all c floor p ≡ run_start cs c floor p
  unfolding run_start
  start_left c floor p h = elim (cases_lt p floor) [
    | inl lt ↦ run_start_none all c floor p (omega arith) ∙ sym (run_start_none cs c floor p (omega arith))
    | inr ge ↦ ap (λ xs. p - suffix_len (λ d. eqb d c) xs) (part_left floor p (omega arith) h)
  ]

  -- a run in it ends there
  end_left : (c k q : ℕ) → q + k ≡ n → 0 < n → (q ≡ n → c ≡ get_or cs (n - 1) 0) → run_end all c q ≡ run_end cs c q
  end_left c zero q e has is =
      let here : run_end cs c q ≡ q = run_end_none cs c q (omega arith) in
      elim (cases_lt q (length all)) [
        | inl lt ↦
            let at : get_or all q 0 ≡ get_or ds 0 0 = ap (λ i. get_or all i 0) (omega arith) ∙ at_right 0 in
            run_end_here all c q lt (λ x. differs has (omega (arith, length-append cs ds))
            (sym (is (omega arith)) ∙ sym x ∙ at)) ∙ sym here
        | inr ge ↦ run_end_none all c q ge ∙ sym here
      ]
  end_left c (suc k) q e has is =
      let lt : q < n = omega arith in
      let lt_all : q < length all = omega (arith, length-append cs ds) in
      elim (cases_Bool (eqb (get_or cs q 0) c)) [
        | inl is_c ↦
            let same : get_or cs q 0 ≡ c = eqb-true _ c is_c in
            let l = run_end_more all c q lt_all (at_left q lt ∙ same) in
            let r = run_end_more cs c q (omega arith) same in
            let up = end_left c k (q + 1) (omega arith) has
            (λ z. let j : q ≡ n - 1 = omega arith in sym same ∙ ap (λ i. get_or cs i 0) j) in
            sym l ∙ up ∙ r
        | inr not_c ↦
            let off : get_or cs q 0 ≡ c → ⊥ = eqb-false _ c not_c in
            run_end_here all c q lt_all (λ x. off (sym (at_left q lt) ∙ x))
            ∙ sym (run_end_here cs c q (omega arith) off)
      ]

  pub least_in_left : (a b : ℕ) → a ≤ n → b ≤ n → range_least all a b ≡ range_least cs a b
  unfolding range_least
  least_in_left a b h h2 = ap least (part_left a b h h2)

  pub widened_start_left : (a b floor : ℕ) → a < b → b ≤ n → widened_start all a b floor ≡ widened_start cs a b floor
  unfolding widened_start
  widened_start_left a b floor some within =
      let F : ℕ → ℕ → ℕ = λ c m. cond (eqb c m) a (run_start all c floor a) in
      let c = get_or cs a 0 in
      ap (λ x. F x (range_least all a b)) (at_left a (omega arith)) ∙ ap (F c) (least_in_left a b (omega arith) within)
      ∙ ap (cond (eqb c (range_least cs a b)) a) (start_left c floor a (omega arith))

  pub widened_end_left : (a b : ℕ) → a < b → b ≤ n → widened_end all a b ≡ widened_end cs a b
  unfolding widened_end
  widened_end_left a b some within =
      let F : ℕ → ℕ → ℕ = λ c m. cond (eqb c m) b (run_end all c b) in
      let c = get_or cs (b - 1) 0 in
      ap (λ x. F x (range_least all a b)) (at_left (b - 1) (omega arith))
      ∙ ap (F c) (least_in_left a b (omega arith) within)
      ∙ ap (cond (eqb c (range_least cs a b)) b)
      (end_left c (n - b) b (omega arith) (omega arith) (λ z. ap (λ i. get_or cs (i - 1) 0) z))

-- ---- two lists of glyphs

module _ (xs ys : List hb_glyph_info_t) (apart : NoRunCrosses (clusters xs) (clusters ys)) (p q floor : ℕ)
    (some : p < q) where
  abbrev n : ℕ
  n = length xs

  -- a range in the second list
  pub run_merge_right : q ≤ length ys → run_merge (xs ++ ys) (n + p) (n + q) floor ≡ xs ++ run_merge ys p q (floor - n)
  unfolding run_merge
  run_merge_right within =
      let cs = clusters xs in
      let ds = clusters ys in
      let len : length cs ≡ n = length-clusters xs in
      let len2 = length-clusters ys in
      let M : List ℕ → List hb_glyph_info_t = λ zs. map_range (with_cluster (range_least zs (n + p) (n + q)) 0) (xs ++ ys)
      (widened_start zs (n + p) (n + q) floor) (widened_end zs (n + p) (n + q)) in
      let A = widened_start ds p q (floor - n) in
      let B = widened_end ds p q in
      let f = with_cluster (range_least ds p q) 0 in
      let up : A ≤ B = omega (arith, widened_start-le ds p q (floor - n), widened_end-ge ds p q) in
      let za : n + A - n ≡ A = omega arith in
      let zb : n + B - n ≡ B = omega arith in
      cond-false _ _ _ (lt-leb (n + q) (n + p) (omega arith))
      ∙ ap M (clusters-append xs ys)
      ∙ ap (λ k. map_range (with_cluster k 0) (xs ++ ys) (widened_start (cs ++ ds) (n + p) (n + q) floor)
      (widened_end (cs ++ ds) (n + p) (n + q))) (least_in_right cs ds apart n len p q)
      ∙ ap (λ k. map_range f (xs ++ ys) k (widened_end (cs ++ ds) (n + p) (n + q)))
      (widened_start_right cs ds apart n len p q floor some (omega arith))
      ∙ ap (map_range f (xs ++ ys) (n + A)) (widened_end_right cs ds apart n len p q some (omega arith))
      ∙ map_range-append f xs ys (n + A) (n + B) (omega arith)
      ∙ ap (λ zs. zs ++ map_range f ys (n + A - n) (n + B - n))
      (map_range_past f xs (n + A) (n + B) (omega arith) (omega arith))
      ∙ ap (λ k. xs ++ map_range f ys k (n + B - n)) za ∙ ap (λ k. xs ++ map_range f ys A k) zb
      ∙ ap (λ zs. xs ++ zs) (sym (cond-false _ _ _ (lt-leb q p some)))

  -- a range in the first list
  pub run_merge_left : q ≤ n → run_merge (xs ++ ys) p q floor ≡ run_merge xs p q floor ++ ys
  unfolding run_merge
  run_merge_left within =
      let cs = clusters xs in
      let ds = clusters ys in
      let len : length cs ≡ n = length-clusters xs in
      let M : List ℕ → List hb_glyph_info_t = λ zs. map_range (with_cluster (range_least zs p q) 0) (xs ++ ys)
      (widened_start zs p q floor) (widened_end zs p q) in
      let A = widened_start cs p q floor in
      let B = widened_end cs p q in
      let f = with_cluster (range_least cs p q) 0 in
      let up : A ≤ B = omega (arith, widened_start-le cs p q floor, widened_end-ge cs p q) in
      let low : B ≤ n = omega (arith, widened_end-le cs p q (omega arith)) in
      let za : A - n ≡ 0 = omega arith in
      let zb : B - n ≡ 0 = omega arith in
      cond-false _ _ _ (lt-leb q p some)
      ∙ ap M (clusters-append xs ys)
      ∙ ap (λ k. map_range (with_cluster k 0) (xs ++ ys) (widened_start (cs ++ ds) p q floor)
      (widened_end (cs ++ ds) p q)) (least_in_left cs ds apart n len p q (omega arith) within)
      ∙ ap (λ k. map_range f (xs ++ ys) k (widened_end (cs ++ ds) p q))
      (widened_start_left cs ds apart n len p q floor some within)
      ∙ ap (map_range f (xs ++ ys) A) (widened_end_left cs ds apart n len p q some within)
      ∙ map_range-append f xs ys A B up
      ∙ ap (λ k. map_range f xs A B ++ map_range f ys k (B - n)) za
      ∙ ap (λ k. map_range f xs A B ++ map_range f ys 0 k) zb
      ∙ ap (λ zs. map_range f xs A B ++ zs) (map_range_none f ys 0)
      ∙ ap (λ zs. zs ++ ys) (sym (cond-false _ _ _ (lt-leb q p some)))

pub ruleset seams = (run_merge_short, run_merge_left, run_merge_right, length-run_merge, same_out, same_input, cut_out, cut_input, length-append)
