-- Cluster numbers: where they stand, where a number occurs, the least of a list, and monotone lists.
use Rattle.std.proofs.Common.{◌≡◌, ℕ, zero, suc, ◌+◌, ◌-◌, ◌<◌, ◌≤◌, inl, inr, List, [], ◌∷◌, ◌++◌, length, get_or}
use Rattle.std.proofs.Common.{take, drop, min, refl, sym, ap, ◌∙◌, arith, length-append, eqb, true}
use Rattle.std.proofs.lemmas.List.{get_or-map, get_or_default, length-map, take-map, drop-map, map-append, take_all}
use Rattle.std.proofs.lemmas.List.Folds.{Any-from_list_any, list_any_at}
use Rattle.std.proofs.lemmas.Bool.{cases_lt, eqb-true, eq-eqb}
use Rattle.rb_glyph.specs.declared.info.hb_glyph_info_t.{hb_glyph_info_t}
use Rattle.glyph_lists.specs.Parts.{part}
use Rattle.glyph_lists.specs.Clusters.{clusters, occurs, least, range_least, IsMonotone}
use Rattle.glyph_lists.proofs.PartsLemmas.{length-part, get_or-part, part_more}

-- ---- the numbers of a list of glyphs

-- there are as many numbers as glyphs
pub length-clusters : (l : List hb_glyph_info_t) → length (clusters l) ≡ length l
length-clusters l = length-map l (λ g. g.cluster)

-- the number at a place is the cluster of the glyph there
pub get_or-clusters : (l : List hb_glyph_info_t) (k : ℕ) (d : hb_glyph_info_t) → k < length l
    → get_or (clusters l) k 0 ≡ (get_or l k d).cluster
get_or-clusters l k d in_l = get_or-map (λ g. g.cluster) l k d 0 in_l

-- the numbers of two lists, one after the other
pub clusters-append : (l r : List hb_glyph_info_t) → clusters (l ++ r) ≡ clusters l ++ clusters r
clusters-append l r = map-append (λ g. g.cluster) l r

pub length_clusters-append : (l r : List hb_glyph_info_t) → length (clusters (l ++ r)) ≡ length l + length r
length_clusters-append l r = length-clusters (l ++ r) ∙ length-append l r

-- the numbers of a part
pub clusters-part : (l : List hb_glyph_info_t) (p q : ℕ) → clusters (part l p q) ≡ part (clusters l) p q
clusters-part l p q =
    sym (take-map (λ g. g.cluster) (q - p) (drop p l)) ∙ ap (take (q - p)) (sym (drop-map (λ g. g.cluster) p l))

-- ---- where a number occurs

-- a number that stands at a place occurs
pub occurs_at : (c : ℕ) (cs : List ℕ) (k : ℕ) → k < length cs → get_or cs k 0 ≡ c → occurs c cs ≡ true
occurs_at c cs k in_cs is = list_any_at (λ d. eqb d c) cs k 0 in_cs (eq-eqb _ c is)

-- a number that occurs stands at a place
pub occurs_place : (c : ℕ) (cs : List ℕ) → occurs c cs ≡ true → (k : ℕ) × (k < length cs) × (get_or cs k 0 ≡ c)
occurs_place c cs on =
    let w = Any-from_list_any (λ d. eqb d c) cs on in
    (w.0, w.2, get_or_default cs w.0 0 w.1 w.2 ∙ w.3 ∙ eqb-true _ c w.4)

-- the same of a part, by places of the whole
pub occurs_part_at : (c : ℕ) (cs : List ℕ) (p q k : ℕ) → p ≤ k → k < q → q ≤ length cs → get_or cs k 0 ≡ c
    → occurs c (part cs p q) ≡ true
occurs_part_at c cs p q k from_p before_q in_cs is =
    occurs_at c (part cs p q) (k - p) (omega (arith, length-part cs p q in_cs))
    (get_or-part cs p q k 0 from_p before_q ∙ is)

pub occurs_part_place : (c : ℕ) (cs : List ℕ) (p q : ℕ) → q ≤ length cs → occurs c (part cs p q) ≡ true
    → (k : ℕ) × (p ≤ k) × (k < q) × (get_or cs k 0 ≡ c)
occurs_part_place c cs p q in_cs on =
    let w = occurs_place c (part cs p q) on in
    let n = length-part cs p q in_cs in
    let i : (p + w.0) - p ≡ w.0 = omega arith in (
      p + w.0,
      omega arith,
      omega (arith, w.1),
      sym (get_or-part cs p q (p + w.0) 0 (omega arith) (omega (arith, w.1))) ∙ ap (λ j. get_or (part cs p q) j 0) i
          ∙ w.2,
    )

-- ---- the least number

-- no number is below the least
pub least-le : (cs : List ℕ) (k : ℕ) → k < length cs → least cs ≤ get_or cs k 0
unfolding least
least-le [] k in_cs = omega arith
least-le (c ∷ []) zero in_cs = omega arith
least-le (c ∷ []) (suc k) in_cs = omega arith
least-le (c ∷ d ∷ cs) zero in_cs = omega arith
least-le (c ∷ d ∷ cs) (suc k) in_cs = omega (arith, least-le (d ∷ cs) k (omega arith))

-- the least of some numbers is one of them
pub least-stands : (cs : List ℕ) → 0 < length cs → (k : ℕ) × (k < length cs) × (get_or cs k 0 ≡ least cs)
unfolding least
least-stands [] some = absurd (omega arith)
least-stands (c ∷ []) some = (0, omega arith, refl)
least-stands (c ∷ d ∷ cs) some =
    let w = least-stands (d ∷ cs) (omega arith) in
    elim (cases_lt (least (d ∷ cs)) c) [
      | inl lt ↦ (suc w.0, omega (arith, w.1), omega (arith, w.2))
      | inr ge ↦ (0, omega arith, omega arith)
    ]

-- what is no greater than each number, and stands among them, is the least
pub least_is : (cs : List ℕ) (k m : ℕ) → k < length cs → get_or cs k 0 ≡ m
    → ((j : ℕ) → j < length cs → m ≤ get_or cs j 0) → least cs ≡ m
least_is cs k m in_cs is low =
    let w = least-stands cs (omega arith) in
    omega (arith, least-le cs k in_cs, low w.0 w.1, w.2)

-- ---- one place more

-- the least with a number more
pub least_push : (cs : List ℕ) (c : ℕ) → 0 < length cs → least (cs ++ c ∷ []) ≡ min (least cs) c
unfolding least
least_push [] c some = absurd (omega arith)
least_push (a ∷ []) c some = refl
least_push (a ∷ b ∷ cs) c some = omega (arith, least_push (b ∷ cs) c (omega arith))

-- the least of a range that ends one place later
pub range_least_more : (cs : List ℕ) (p i : ℕ) → p < i → i < length cs
    → range_least cs p (i + 1) ≡ min (range_least cs p i) (get_or cs i 0)
unfolding range_least
range_least_more cs p i some in_cs =
    ap least (part_more cs p i 0 (omega arith) in_cs)
    ∙ least_push (part cs p i) (get_or cs i 0) (omega (arith, length-part cs p i (omega arith)))

-- the same, with the last place named
pub range_least_last : (cs : List ℕ) (p q : ℕ) → p + 2 ≤ q → q ≤ length cs
    → range_least cs p q ≡ min (range_least cs p (q - 1)) (get_or cs (q - 1) 0)
range_least_last cs p q some in_cs =
    let e : q - 1 + 1 ≡ q = omega arith in
    ap (range_least cs p) (sym e) ∙ range_least_more cs p (q - 1) (omega arith) (omega arith)

-- the least of a range of one place
pub range_least_one : (cs : List ℕ) (p : ℕ) → p < length cs → range_least cs p (p + 1) ≡ get_or cs p 0
unfolding range_least least
range_least_one cs p in_cs =
    let n : p - p ≡ 0 = omega arith in
    ap least (part_more cs p p 0 (omega arith) in_cs ∙ ap (λ k. take k (drop p cs) ++ get_or cs p 0 ∷ []) n)

-- there is none
pub least_nothing : (l : List hb_glyph_info_t) → length l ≡ 0 → least (clusters l) ≡ 0
unfolding least
least_nothing [] h = refl
least_nothing (g ∷ l) h = absurd (omega arith)

-- the least of all places
pub range_least-whole : (cs : List ℕ) (n : ℕ) → length cs ≤ n → range_least cs 0 n ≡ least cs
unfolding range_least
range_least-whole cs n h = ap least (take_all (n - 0) cs (omega arith))

-- the least of a range is not above a number of the range, and is one of them
module _ (cs : List ℕ) (p q : ℕ) (in_cs : q ≤ length cs) where
  pub range_least-le : (k : ℕ) → p ≤ k → k < q → range_least cs p q ≤ get_or cs k 0
  unfolding range_least
  range_least-le k from_p before_q =
      omega (
        arith,
        least-le (part cs p q) (k - p) (omega (arith, length-part cs p q in_cs)),
        get_or-part cs p q k 0 from_p before_q,
      )

  pub range_least-stands : p < q → (k : ℕ) × (p ≤ k) × (k < q) × (get_or cs k 0 ≡ range_least cs p q)
  unfolding range_least
  range_least-stands some =
      let n = length-part cs p q in_cs in
      let w = least-stands (part cs p q) (omega arith) in
      let i : (p + w.0) - p ≡ w.0 = omega arith in (
        p + w.0,
        omega arith,
        omega (arith, w.1),
        sym (get_or-part cs p q (p + w.0) 0 (omega arith) (omega (arith, w.1)))
            ∙ ap (λ j. get_or (part cs p q) j 0) i ∙ w.2,
      )

-- ---- monotone lists

-- equal numbers stand together
abbrev pub IsContiguous : List ℕ → Type 0
IsContiguous cs =
    (i j k : ℕ) → i ≤ j → j ≤ k → k < length cs → get_or cs i 0 ≡ get_or cs k 0 → get_or cs j 0 ≡ get_or cs i 0

-- in monotone clusters they do
pub IsContiguous-from_monotone : (l : List hb_glyph_info_t) → IsMonotone l → IsContiguous (clusters l)
IsContiguous-from_monotone l (inl up) = λ i j k h h2 h3 e.
    let a = up i j h (omega arith) in let b = up j k h2 h3 in omega arith
IsContiguous-from_monotone l (inr down) = λ i j k h h2 h3 e.
    let a = down i j h (omega arith) in let b = down j k h2 h3 in omega arith
