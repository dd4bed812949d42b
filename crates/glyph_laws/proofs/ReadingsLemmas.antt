-- One list that reads another from left to right: it drops or repeats glyphs, and keeps their order.
use Rattle.std.proofs.Common.{zero, [], take, drop, subst, length-take, length-drop, refl, ◌≡◌, ℕ, suc, ◌+◌, ◌-◌, ◌<◌}
use Rattle.std.proofs.Common.{◌≤◌, inl, inr, List, ◌∷◌, ◌++◌, length, get_or, map, sym, ap, ◌∙◌, arith, ltb, cond}
use Rattle.std.proofs.Common.{length-append}
use Rattle.std.proofs.Common.{Bool, true, false}
use Rattle.std.proofs.lemmas.List.{take_at, drop_at, append-nil, append_assoc, get_or-take, get_or-drop}
use Rattle.std.proofs.lemmas.List.{get_or-append_right, get_or_append_left, get_or-map, get_or-append-add}
use Rattle.std.proofs.lemmas.Bool.{cond-true, cond-false, cases_lt, lt-ltb, le-ltb}
use Rattle.rb_glyph.specs.declared.info.hb_glyph_info_t.{hb_glyph_info_t}
use Rattle.glyph_lists.specs.Clusters.{clusters, IsMonotone, IsCoarse, NeverFalls, NeverRises, zero_glyph}
use Rattle.glyph_lists.specs.KeptClusters.{Runs}
use Rattle.glyph_lists.specs.Parts.{part}
use Rattle.glyph_lists.specs.Masks.{with_mask, reset_masks}
use Rattle.glyph_lists.proofs.PartsLemmas.{map-map_same, length-part, get_or-part}
use Rattle.glyph_lists.proofs.ClustersLemmas.{get_or-clusters, length-clusters}

-- the glyph at a place, for all that an order reads of it
abbrev pub at : List hb_glyph_info_t → ℕ → hb_glyph_info_t
at l k = get_or l k zero_glyph

pub record Reading (xs ys : List hb_glyph_info_t) : Type 0 where
  pub from : ℕ → ℕ
  pub up : (i j : ℕ) → i ≤ j → from i ≤ from j
  pub within : (j : ℕ) → j < length ys → from j < length xs
  pub cluster : (j : ℕ) → j < length ys → (at ys j).cluster ≡ (at xs (from j)).cluster
  pub var2 : (j : ℕ) → j < length ys → (at ys j).var2 ≡ (at xs (from j)).var2

get_or-read : (xs ys : List hb_glyph_info_t) (r : Reading xs ys) (j : ℕ) → j < length ys
    → get_or (clusters ys) j 0 ≡ get_or (clusters xs) (r.from j) 0
get_or-read xs ys r j h =
    get_or-clusters ys j zero_glyph h ∙ r.cluster j h
    ∙ sym (get_or-clusters xs (r.from j) zero_glyph (r.within j h))

-- what reads clusters that run up runs up, and so with those that run down, and with monotone and coarse ones
rising_reading : (xs ys : List hb_glyph_info_t) → Reading xs ys → NeverFalls (clusters xs) → NeverFalls (clusters ys)
rising_reading xs ys r up i j h h2 =
    let n = length-clusters xs in
    let n2 = length-clusters ys in
    omega (
      arith,
      get_or-read xs ys r i (omega arith),
      get_or-read xs ys r j (omega arith),
      up (r.from i) (r.from j) (r.up i j h) (omega (arith, r.within j (omega arith))),
    )

falling_reading : (xs ys : List hb_glyph_info_t) → Reading xs ys → NeverRises (clusters xs) → NeverRises (clusters ys)
falling_reading xs ys r down i j h h2 =
    let n = length-clusters xs in
    let n2 = length-clusters ys in
    omega (
      arith,
      get_or-read xs ys r i (omega arith),
      get_or-read xs ys r j (omega arith),
      down (r.from i) (r.from j) (r.up i j h) (omega (arith, r.within j (omega arith))),
    )

pub running_reading : (up : Bool) (xs ys : List hb_glyph_info_t) → Reading xs ys → Runs up (clusters xs)
    → Runs up (clusters ys)
running_reading true = rising_reading
running_reading false = falling_reading

pub monotone_reading : (xs ys : List hb_glyph_info_t) → Reading xs ys → IsMonotone xs → IsMonotone ys
monotone_reading xs ys r (inl up) = inl (rising_reading xs ys r up)
monotone_reading xs ys r (inr down) = inr (falling_reading xs ys r down)

pub coarse_reading : (xs ys : List hb_glyph_info_t) → Reading xs ys → IsCoarse xs → IsCoarse ys
coarse_reading xs ys r co = record {
  ordered = monotone_reading xs ys r co.ordered;
  low = λ i h. omega (arith, r.cluster i h, r.var2 i h, co.low (r.from i) (r.within i h));
  alike = λ i j h h2 le. omega (
    arith,
    r.cluster i h,
    r.var2 i h,
    r.cluster j h2,
    r.var2 j h2,
    co.alike (r.from i) (r.from j) (r.within i h) (r.within j h2) (omega (arith, r.var2 i h, r.var2 j h2)),
  );
}

-- the places p to q give way to glyphs that are as the one at p, for all that an order reads
module _ (l copies : List hb_glyph_info_t) (p q : ℕ) (up : p ≤ q) (in_l : q ≤ length l) (here : p < length l)
    (same_cluster : (k : ℕ) → k < length copies → (at copies k).cluster ≡ (at l p).cluster)
    (same_var2 : (k : ℕ) → k < length copies → (at copies k).var2 ≡ (at l p).var2) where
  abbrev replacement : List hb_glyph_info_t
  replacement = take p l ++ copies ++ drop q l

  source : ℕ → ℕ
  source j = cond (ltb j p) j (cond (ltb j (p + length copies)) p (q + (j - (p + length copies))))

  source-before : (j : ℕ) → j < p → source j ≡ j
  unfolding source
  source-before j h = cond-true _ _ _ (lt-ltb j p h)

  source-copy : (j : ℕ) → p ≤ j → j < p + length copies → source j ≡ p
  unfolding source
  source-copy j h h2 = cond-false _ _ _ (le-ltb j p h) ∙ cond-true _ _ _ (lt-ltb j (p + length copies) h2)

  source-after : (j : ℕ) → p + length copies ≤ j → source j ≡ q + (j - (p + length copies))
  unfolding source
  source-after j h = cond-false _ _ _ (le-ltb j p (omega arith)) ∙ cond-false _ _ _ (le-ltb j (p + length copies) h)

  source-up : (i j : ℕ) → i ≤ j → source i ≤ source j
  source-up i j h =
      elim (cases_lt i p) [
        | inl i_before ↦ elim (cases_lt j p) [
          | inl j_before ↦ omega (arith, source-before i i_before, source-before j j_before)
          | inr j_from ↦ elim (cases_lt j (p + length copies)) [
            | inl j_copy ↦ omega (arith, source-before i i_before, source-copy j j_from j_copy)
            | inr j_after ↦ omega (arith, source-before i i_before, source-after j j_after)
          ]
        ]
        | inr i_from ↦ elim (cases_lt i (p + length copies)) [
          | inl i_copy ↦ elim (cases_lt j (p + length copies)) [
            | inl j_copy ↦ omega (arith, source-copy i i_from i_copy, source-copy j (omega arith) j_copy)
            | inr j_after ↦ omega (arith, source-copy i i_from i_copy, source-after j j_after)
          ]
          | inr i_after ↦ omega (arith, source-after i i_after, source-after j (omega arith))
        ]
      ]

  source-within : (j : ℕ) → j < length replacement → source j < length l
  source-within j h =
      let n : length replacement ≡ p + length copies + (length l - q) =
      simp (length-append, length-take, length-drop) (omega arith) in
      elim (cases_lt j p) [
        | inl before ↦ omega (arith, source-before j before)
        | inr from ↦ elim (cases_lt j (p + length copies)) [
          | inl copy ↦ omega (arith, source-copy j from copy)
          | inr after ↦ omega (arith, source-after j after)
        ]
      ]

  source-at : (f : hb_glyph_info_t → ℕ) → ((k : ℕ) → k < length copies → f (at copies k) ≡ f (at l p)) → (j : ℕ)
      → f (at replacement j) ≡ f (at l (source j))
  source-at f same j =
      let n : length (take p l) ≡ p = simp length-take (omega arith) in
      let n2 : length (take p l ++ copies) ≡ p + length copies =
      length-append (take p l) copies ∙ ap (λ k. k + length copies) n in
      elim (cases_lt j p) [
        | inl before ↦ ap f (get_or_append_left (take p l ++ copies) (drop q l) zero_glyph j (omega arith)
            ∙ get_or_append_left (take p l) copies zero_glyph j (omega arith)
            ∙ get_or-take p l j zero_glyph before ∙ ap (at l) (sym (source-before j before)))
        | inr from ↦ elim (cases_lt j (p + length copies)) [
          | inl copy ↦ ap f (get_or_append_left (take p l ++ copies) (drop q l) zero_glyph j (omega arith)
              ∙ get_or-append_right (take p l) copies p j zero_glyph n from)
              ∙ same (j - p) (omega arith) ∙ ap (λ k. f (at l k)) (sym (source-copy j from copy))
          | inr after ↦ ap f (get_or-append_right (take p l ++ copies) (drop q l) (p + length copies) j zero_glyph n2
              after
              ∙ get_or-drop q l (j - (p + length copies)) zero_glyph ∙ ap (at l) (sym (source-after j after)))
        ]
      ]

  pub reading_replaced : Reading l replacement
  reading_replaced = record {
    from = source;
    up = source-up;
    within = source-within;
    cluster = λ j _. source-at (λ g. g.cluster) same_cluster j;
    var2 = λ j _. source-at (λ g. g.var2) same_var2 j;
  }

-- one glyph is dropped
pub reading_dropped : (xs : List hb_glyph_info_t) (x : hb_glyph_info_t) (ys : List hb_glyph_info_t)
    → Reading (xs ++ x ∷ ys) (xs ++ ys)
reading_dropped xs x ys =
    let l : List hb_glyph_info_t = xs ++ x ∷ ys in
    let n : length l ≡ length xs + suc (length ys) = length-append xs (x ∷ ys) in
    let n1 : length (xs ++ x ∷ []) ≡ length xs + 1 = length-append xs (x ∷ []) in
    let front : take (length xs) l ++ [] ≡ xs =
    append-nil (take (length xs) l) ∙ take_at xs (x ∷ ys) (length xs) refl in
    let back : drop (length xs + 1) l ≡ ys =
    ap (drop (length xs + 1)) (sym (append_assoc xs (x ∷ []) ys)) ∙ drop_at (xs ++ x ∷ []) ys (length xs + 1) n1 in
    subst (Reading l) (ap (λ z. z ++ drop (length xs + 1) l) front ∙ ap (λ z. xs ++ z) back)
    (reading_replaced l [] (length xs) (length xs + 1) (omega arith) (omega arith) (omega arith)
    (λ k h. absurd (omega arith)) (λ k h. absurd (omega arith)))

as_x : (y x z : hb_glyph_info_t) (f : hb_glyph_info_t → ℕ) → f y ≡ f x → z ≡ x → (k : ℕ) → k < 1
    → f (at (y ∷ []) k) ≡ f z
as_x y x z f same e zero h = same ∙ ap f (sym e)
as_x y x z f same e (suc k) h = absurd (omega arith)

-- one glyph is repeated, with the repeat before it: y is as x, for all that an order reads
pub reading_copied : (xs : List hb_glyph_info_t) (y x : hb_glyph_info_t) (ys : List hb_glyph_info_t)
    → y.cluster ≡ x.cluster → y.var2 ≡ x.var2
    → Reading (xs ++ x ∷ ys) (xs ++ y ∷ x ∷ ys)
reading_copied xs y x ys same_cluster same_var2 =
    let l : List hb_glyph_info_t = xs ++ x ∷ ys in
    let n : length l ≡ length xs + suc (length ys) = length-append xs (x ∷ ys) in
    let i : length xs + 0 ≡ length xs = omega arith in
    let at_x : at l (length xs) ≡ x = ap (at l) (sym i) ∙ get_or-append-add xs (x ∷ ys) 0 zero_glyph in
    subst (Reading l)
    (ap (λ z. (z ++ y ∷ []) ++ drop (length xs) l) (take_at xs (x ∷ ys) (length xs) refl)
    ∙ ap (λ z. (xs ++ y ∷ []) ++ z) (drop_at xs (x ∷ ys) (length xs) refl) ∙ append_assoc xs (y ∷ []) (x ∷ ys))
    (reading_replaced l (y ∷ []) (length xs) (length xs) (omega arith) (omega arith) (omega arith)
    (as_x y x (at l (length xs)) (λ g. g.cluster) same_cluster at_x)
    (as_x y x (at l (length xs)) (λ g. g.var2) same_var2 at_x))

-- lists that agree place by place
pub reading_alike : (xs ys : List hb_glyph_info_t) → length ys ≡ length xs
    → ((j : ℕ) → j < length ys → (at ys j).cluster ≡ (at xs j).cluster)
    → ((j : ℕ) → j < length ys → (at ys j).var2 ≡ (at xs j).var2) → Reading xs ys
reading_alike xs ys same_length same_clusters same_var2 =
    record { from = λ j. j; up = λ i j h. h; within = λ j h. omega arith; cluster = same_clusters; var2 = same_var2 }

-- lists with the same clusters and the same second words
reading_by_fields : (xs ys : List hb_glyph_info_t) → clusters ys ≡ clusters xs
    → map (λ g. g.var2) ys ≡ map (λ g. g.var2) xs → Reading xs ys
reading_by_fields xs ys c v =
    let n : length ys ≡ length xs = sym (length-clusters ys) ∙ ap length c ∙ length-clusters xs in
    reading_alike xs ys n
    (λ j h. sym (get_or-clusters ys j zero_glyph h) ∙ ap (λ cs. get_or cs j 0) c
    ∙ get_or-clusters xs j zero_glyph (omega arith))
    (λ j h. sym (get_or-map (λ g. g.var2) ys j zero_glyph 0 h) ∙ ap (λ vs. get_or vs j 0) v
    ∙ get_or-map (λ g. g.var2) xs j zero_glyph 0 (omega arith))

-- lists that are the same except for their masks
module _ (xs ys : List hb_glyph_info_t) (same : reset_masks 0 xs ≡ reset_masks 0 ys) where
  fields-but_masks : (f : hb_glyph_info_t → ℕ) → ((g : hb_glyph_info_t) → f (with_mask 0 g) ≡ f g) → map f xs ≡ map f ys
  unfolding reset_masks
  fields-but_masks f reads_none =
      sym (map-map_same f (with_mask 0) reads_none xs) ∙ ap (map f) same ∙ map-map_same f (with_mask 0) reads_none ys

  pub clusters-but_masks : clusters xs ≡ clusters ys
  unfolding with_mask
  clusters-but_masks = fields-but_masks (λ g. g.cluster) (λ g. refl)

  pub reading_but_masks : Reading xs ys
  unfolding with_mask
  reading_but_masks =
      reading_by_fields xs ys (sym clusters-but_masks) (sym (fields-but_masks (λ g. g.var2) (λ g. refl)))

-- a part of a list
pub reading_part : (l : List hb_glyph_info_t) (p q : ℕ) → q ≤ length l → Reading l (part l p q)
reading_part l p q in_l =
    let n = length-part l p q in_l in
    let e : (j : ℕ) → j < length (part l p q) → at (part l p q) j ≡ at l (p + j) = λ j lt.
    let i : p + j - p ≡ j = omega arith in ap (at (part l p q)) (sym i)
    ∙ get_or-part l p q (p + j) zero_glyph (omega arith) (omega arith) in
    record {
      from = λ j. p + j;
      up = λ i j le. omega arith;
      within = λ j lt. omega arith;
      cluster = λ j lt. ap (λ g. g.cluster) (e j lt);
      var2 = λ j lt. ap (λ g. g.var2) (e j lt);
    }
