-- Marks: on monotone clusters the scan by the ends marks what the mark does.
use Rattle.std.proofs.Common.{map, take, drop, ◌≡◌, ℕ, suc, ◌+◌, ◌-◌, ◌<◌, ◌≤◌, ◌⊎◌, inl, inr, List, [], ◌∷◌, ◌++◌}
use Rattle.std.proofs.Common.{length, get_or, min, refl, sym, ap, ◌∙◌, arith, length-append, subst, eqb, true, false}
use Rattle.std.proofs.Common.{Bool, not, cond}
use Rattle.std.specs.List.{prefix_len, suffix_len}
use Rattle.std.proofs.lemmas.List.{get_or-map, length-map, same_lists, map-append, append-nil, get_or_append_left}
use Rattle.std.proofs.lemmas.List.{get_or-append-add, get_or-append_right}
use Rattle.std.proofs.lemmas.List.Sums.{prefix_len_passes, prefix_len_stops}
use Rattle.std.proofs.lemmas.Bool.{cond_both, eqb-true, eq-eqb, cond-true, cond-false, cases_Bool, cases_lt}
use Rattle.rb_glyph.specs.declared.info.hb_glyph_info_t.{hb_glyph_info_t}
use Rattle.glyph_lists.specs.Parts.{part, map_range}
use Rattle.glyph_lists.specs.Clusters.{clusters, least, NeverFalls, NeverRises, IsMonotone}
use Rattle.glyph_lists.specs.Marks.{with_glyph_flags, mark, mark_others, mark_part, end_mark, ends, ends_least}
use Rattle.glyph_lists.specs.Masks.{with_mask, reset_masks}
use Rattle.glyph_lists.proofs.PartsLemmas.{map-new_part, map-map_same, map-map_range, length-map_range}
use Rattle.glyph_lists.proofs.PartsLemmas.{map_range-before, map_range-within, map_range-after}
use Rattle.glyph_lists.proofs.ClustersLemmas.{get_or-clusters, IsContiguous, IsContiguous-from_monotone, least-le}
use Rattle.glyph_lists.proofs.ClustersLemmas.{least-stands}
use Rattle.glyph_laws.proofs.ReadingsLemmas.{Reading, reading_but_masks}
use Rattle.glyph_lists.proofs.RunsLemmas.{suffix_passes, suffix_stops}

-- ---- the least number of a monotone list stands at an end

least_from_ends : (xs : List ℕ) (m : ℕ) → NeverFalls xs ⊎ NeverRises xs → 0 < length xs → m ≤ get_or xs 0 0
    → m ≤ get_or xs (length xs - 1) 0 → least xs ≤ m → m ≡ least xs
least_from_ends xs m (inl up) some a z low =
    let w = least-stands xs some in
    omega (arith, up 0 w.0 (omega arith) w.1, w.2)
least_from_ends xs m (inr down) some a z low =
    let w = least-stands xs some in
    omega (arith, down w.0 (length xs - 1) (omega (arith, w.1)) (omega arith), w.2)

least-one_end : (c z : ℕ) → least (c ∷ z ∷ []) ≡ min c z
unfolding least
least-one_end c z = refl

least-two_ends : (c y d z : ℕ) → least (c ∷ y ∷ d ∷ z ∷ []) ≡ min c (min y (min d z))
unfolding least
least-two_ends c y d z = refl

get_or-last : (c : ℕ) (cs : List ℕ) → get_or (c ∷ cs) (length (c ∷ cs) - 1) 0 ≡ get_or (c ∷ cs) (length cs) 0
get_or-last c cs = let n : suc (length cs) - 1 ≡ length cs = omega arith in ap (λ j. get_or (c ∷ cs) j 0) n

-- the least of the ends of two lists, of which either may be empty, is the least of all
pub least_of_ends : (cs ds : List ℕ) → NeverFalls (cs ++ ds) ⊎ NeverRises (cs ++ ds)
    → least (ends cs ++ ends ds) ≡ least (cs ++ ds)
unfolding ends
least_of_ends [] [] mono = refl
least_of_ends [] (d ∷ ds) mono =
    let z = get_or-last d ds in
    let e = least-one_end d (get_or (d ∷ ds) (length ds) 0) in
    least_from_ends (d ∷ ds) _ mono (omega arith) (omega arith) (omega arith)
    (omega (arith, least-le (d ∷ ds) 0 (omega arith), least-le (d ∷ ds) (length ds) (omega arith)))
least_of_ends (c ∷ cs) [] mono =
    let z = get_or-last c cs in
    let e = least-one_end c (get_or (c ∷ cs) (length cs) 0) in
    let P : List ℕ → Type 0 = λ ys. NeverFalls ys ⊎ NeverRises ys in
    least_from_ends (c ∷ cs) _ (subst P (append-nil (c ∷ cs)) mono) (omega arith) (omega arith) (omega arith)
    (omega (arith, least-le (c ∷ cs) 0 (omega arith), least-le (c ∷ cs) (length cs) (omega arith)))
    ∙ ap least (sym (append-nil (c ∷ cs)))
least_of_ends (c ∷ cs) (d ∷ ds) mono =
    let xs : List ℕ = (c ∷ cs) ++ (d ∷ ds) in
    let n : length xs ≡ suc (length cs) + suc (length ds) = length-append (c ∷ cs) (d ∷ ds) in
    let y : get_or xs (length cs) 0 ≡ get_or (c ∷ cs) (length cs) 0 =
    get_or_append_left (c ∷ cs) (d ∷ ds) 0 (length cs) (omega arith) in
    let i0 : suc (length cs) - suc (length cs) ≡ 0 = omega arith in
    let i1 : length xs - 1 - suc (length cs) ≡ length ds = omega arith in
    let d0 : get_or xs (suc (length cs)) 0 ≡ d = get_or-append_right (c ∷ cs) (d ∷ ds) (suc (length cs))
    (suc (length cs)) 0 refl (omega arith) ∙ ap (λ j. get_or (d ∷ ds) j 0) i0 in
    let z : get_or xs (length xs - 1) 0 ≡ get_or (d ∷ ds) (length ds) 0 =
    get_or-append_right (c ∷ cs) (d ∷ ds) (suc (length cs)) (length xs - 1) 0 refl (omega arith)
    ∙ ap (λ j. get_or (d ∷ ds) j 0) i1 in
    let e = least-two_ends c (get_or (c ∷ cs) (length cs) 0) d (get_or (d ∷ ds) (length ds) 0) in
    least_from_ends xs _ mono (omega arith) (omega arith) (omega arith)
    (omega (
      arith,
      least-le xs 0 (omega arith),
      least-le xs (length cs) (omega arith),
      least-le xs (suc (length cs)) (omega arith),
      least-le xs (length xs - 1) (omega arith),
    ))

-- ---- marks of a range

eqb_from_not : (b : Bool) → not b ≡ true → b ≡ false
eqb_from_not true e = cc
eqb_from_not false e = refl

eqb_from_not_false : (b : Bool) → not b ≡ false → b ≡ true
eqb_from_not_false true e = refl
eqb_from_not_false false e = cc

-- what a mark does to one glyph
abbrev other : ℕ → ℕ → hb_glyph_info_t → hb_glyph_info_t
other b m g = cond (eqb g.cluster m) g (with_glyph_flags b g)

-- the range holds just the glyphs that are not in m
map_range-marks : (r : List hb_glyph_info_t) (bits m a z : ℕ) → a ≤ z
    → ((k : ℕ) → a ≤ k → k < z → k < length r → eqb (get_or (clusters r) k 0) m ≡ false)
    → ((k : ℕ) → k < a → k < length r → eqb (get_or (clusters r) k 0) m ≡ true)
    → ((k : ℕ) → z ≤ k → k < length r → eqb (get_or (clusters r) k 0) m ≡ true)
    → map_range (with_glyph_flags bits) r a z ≡ mark_others bits m r
map_range-marks r bits m a z up within before after =
    let n = length-map_range (with_glyph_flags bits) r a z up in
    same_lists _ _ (n ∙ sym (length-map r (other bits m)))
    (λ k d h.
    let in_l : k < length r = omega arith in
    let e = get_or-clusters r k d in_l in
    let to = get_or-map (other bits m) r k d d in_l in
    elim (cases_lt k a) [
      | inl lt ↦ map_range-before (with_glyph_flags bits) r a z up k d lt in_l
          ∙ sym (to ∙ cond-true _ _ _ (ap (λ c. eqb c m) (sym e) ∙ before k lt in_l))
      | inr ge ↦ elim (cases_lt k z) [
        | inl lt ↦ map_range-within (with_glyph_flags bits) r a z up k d ge lt in_l
            ∙ sym (to ∙ cond-false _ _ _ (ap (λ c. eqb c m) (sym e) ∙ within k ge lt in_l))
        | inr ge2 ↦ map_range-after (with_glyph_flags bits) r a z up k d ge2 in_l
            ∙ sym (to ∙ cond-true _ _ _ (ap (λ c. eqb c m) (sym e) ∙ after k ge2 in_l))
      ]
    ])

-- where equal numbers stand together, a part is marked outside the cluster m
pub mark_part_is_mark_others : (bits m : ℕ) (r : List hb_glyph_info_t) → IsContiguous (clusters r)
    → mark_part bits m r ≡ mark_others bits m r
unfolding mark_part
mark_part_is_mark_others bits m r together =
    let cs = clusters r in
    let n : length cs ≡ length r = length-map r (λ g. g.cluster) in
    let p : ℕ → Bool = λ c. not (eqb c m) in
    elim (cases_Bool (eqb (get_or cs 0 0) m)) [
      | inl first ↦ cond-true _ _ _ first
          ∙ map_range-marks r bits m (length r - suffix_len p cs) (length r) (omega arith)
          (λ k h h2 h3. eqb_from_not _ (suffix_passes p cs k 0 (omega arith) (omega arith)))
          (λ k h h2.
          let e = eqb-true _ m (eqb_from_not_false _ (suffix_stops p cs 0 (omega arith))) in
          eq-eqb _ m (together 0 k (length cs - 1 - suffix_len p cs) (omega arith) (omega arith) (omega arith)
          (eqb-true _ m first ∙ sym e) ∙ eqb-true _ m first))
          (λ k h h2. absurd (omega arith))
      | inr no_first ↦ cond-false _ _ _ no_first ∙
          elim (cases_Bool (eqb (get_or cs (length r - 1) 0) m)) [
            | inl last ↦ cond-true _ _ _ last
                ∙ map_range-marks r bits m 0 (prefix_len p cs) (omega arith)
                (λ k h h2 h3. eqb_from_not _ (prefix_len_passes p cs k 0 h2))
                (λ k h h2. absurd (omega arith))
                (λ k h h2.
                let e = eqb-true _ m (eqb_from_not_false _ (prefix_len_stops p cs 0 (omega arith))) in
                let i : get_or cs k 0 ≡ get_or cs (prefix_len p cs) 0 =
                together (prefix_len p cs) k (length r - 1) h (omega arith) (omega arith)
                (e ∙ sym (eqb-true _ m last)) in
                eq-eqb _ m (i ∙ e))
            | inr no_last ↦ cond-false _ _ _ no_last
          ]
    ]

-- ---- the laws

-- each of two parts of monotone clusters has equal numbers together
IsContiguous-left : (r s : List hb_glyph_info_t) → IsMonotone (r ++ s) → IsContiguous (clusters r)
IsContiguous-left r s mono = λ i j k i_j j_k in_r alike.
    let cs = clusters r in let ds = clusters s in
    let of_both : clusters (r ++ s) ≡ cs ++ ds = map-append (λ g. g.cluster) r s in
    let n = length-append cs ds in
    let all = subst IsContiguous of_both (IsContiguous-from_monotone (r ++ s) mono) in
    let at : (a : ℕ) → a < length cs → get_or (cs ++ ds) a 0 ≡ get_or cs a 0 = λ a l. get_or_append_left cs ds 0 a l in
    sym (at j (omega arith)) ∙ all i j k i_j j_k (omega arith) (at i (omega arith) ∙ alike ∙ sym (at k in_r))
    ∙ at i (omega arith)

IsContiguous-right : (r s : List hb_glyph_info_t) → IsMonotone (r ++ s) → IsContiguous (clusters s)
IsContiguous-right r s mono = λ i j k i_j j_k in_s alike.
    let cs = clusters r in let ds = clusters s in
    let of_both : clusters (r ++ s) ≡ cs ++ ds = map-append (λ g. g.cluster) r s in
    let n = length-append cs ds in
    let all = subst IsContiguous of_both (IsContiguous-from_monotone (r ++ s) mono) in
    let at : (a : ℕ) → get_or (cs ++ ds) (length cs + a) 0 ≡ get_or ds a 0 = λ a. get_or-append-add cs ds a 0 in
    sym (at j) ∙ all (length cs + i) (length cs + j) (length cs + k) (omega arith) (omega arith) (omega arith)
    (at i ∙ alike ∙ sym (at k)) ∙ at i

-- the scan of two parts, and the scan of one
pub append-mark_part : (bits : ℕ) (r s : List hb_glyph_info_t) → IsMonotone (r ++ s)
    → mark_part bits (ends_least r s) r ++ mark_part bits (ends_least r s) s ≡ mark bits (r ++ s)
unfolding ends_least mark
append-mark_part bits r s mono =
    let m = least (ends (clusters r) ++ ends (clusters s)) in
    let of_both : clusters (r ++ s) ≡ clusters r ++ clusters s = map-append (λ g. g.cluster) r s in
    let P : List ℕ → Type 0 = λ cs. NeverFalls cs ⊎ NeverRises cs in
    let e : m ≡ least (clusters (r ++ s)) =
    least_of_ends (clusters r) (clusters s) (subst P of_both mono) ∙ ap least (sym of_both) in
    ap (λ x. x ++ mark_part bits m s) (mark_part_is_mark_others bits m r (IsContiguous-left r s mono))
    ∙ ap (λ x. mark_others bits m r ++ x) (mark_part_is_mark_others bits m s (IsContiguous-right r s mono))
    ∙ sym (map-append (other bits m) r s)
    ∙ ap (λ k. mark_others bits k (r ++ s)) e

pub end_mark_is_mark : (bits : ℕ) (r : List hb_glyph_info_t) → IsMonotone r → end_mark bits r ≡ mark bits r
unfolding end_mark mark ends least
end_mark_is_mark bits r mono =
    let P : List ℕ → Type 0 = λ cs. NeverFalls cs ⊎ NeverRises cs in
    let e : least (ends (clusters r)) ≡ least (clusters r) =
    ap least (sym (append-nil (ends (clusters r))))
    ∙ least_of_ends (clusters r) [] (subst P (sym (append-nil (clusters r))) mono)
    ∙ ap least (append-nil (clusters r)) in
    mark_part_is_mark_others bits _ r (IsContiguous-from_monotone r mono) ∙ ap (λ k. mark_others bits k r) e

-- ---- what marks leave as it is: f reads no mask

module _ {Y : Type 0} (f : hb_glyph_info_t → Y) (bits : ℕ)
    (same : (g : hb_glyph_info_t) → f (with_glyph_flags bits g) ≡ f g) where
  same-other : (m : ℕ) (g : hb_glyph_info_t) → f (other bits m g) ≡ f g
  same-other m g = cond_both (eqb g.cluster m) g (with_glyph_flags bits g) (λ x. f x ≡ f g) (λ _. refl) (λ _. same g)

  map-mark : (r : List hb_glyph_info_t) → map f (mark bits r) ≡ map f r
  unfolding mark
  map-mark r = map-map_same f (other bits (least (clusters r))) (same-other (least (clusters r))) r

  map-mark_part : (m : ℕ) (r : List hb_glyph_info_t) → map f (mark_part bits m r) ≡ map f r
  unfolding mark_part
  map-mark_part m r =
      let cs = clusters r in
      let p : ℕ → Bool = λ c. not (eqb c m) in
      let Q : List hb_glyph_info_t → Type 0 = λ x. map f x ≡ map f r in
      cond_both (eqb (get_or cs 0 0) m) _ _ Q
      (λ _. map-map_range f (with_glyph_flags bits) same r (length r - suffix_len p cs) (length r) (omega arith))
      (λ _. cond_both (eqb (get_or cs (length r - 1) 0) m) _ _ Q
      (λ _. map-map_range f (with_glyph_flags bits) same r 0 (prefix_len p cs) (omega arith))
      (λ _. map-map_same f (other bits m) (same-other m) r))

-- ---- a part gives way to one that is the same except for its masks

module _ (l new : List hb_glyph_info_t) (p q : ℕ) (up : p ≤ q)
    (same : reset_masks 0 new ≡ reset_masks 0 (part l p q)) where
  pub reset_masks-new_part : reset_masks 0 (take p l ++ new ++ drop q l) ≡ reset_masks 0 l
  unfolding reset_masks
  reset_masks-new_part = map-new_part (with_mask 0) l new p q up same

  pub reading_new_part : Reading l (take p l ++ new ++ drop q l)
  reading_new_part = reading_but_masks l (take p l ++ new ++ drop q l) (sym reset_masks-new_part)

-- ---- marks change masks alone

module _ (bits : ℕ) where
  reset_masks-with_glyph_flags : (g : hb_glyph_info_t) → with_mask 0 (with_glyph_flags bits g) ≡ with_mask 0 g
  unfolding with_mask with_glyph_flags
  reset_masks-with_glyph_flags g = refl

  pub reset_masks-mark_others : (m : ℕ) (r : List hb_glyph_info_t)
      → reset_masks 0 (mark_others bits m r) ≡ reset_masks 0 r
  unfolding reset_masks
  reset_masks-mark_others m r = map-map_same (with_mask 0) (other bits m)
      (λ g. cond_both (eqb g.cluster m) g (with_glyph_flags bits g) (λ x. with_mask 0 x ≡ with_mask 0 g) (λ _. refl)
      (λ _. reset_masks-with_glyph_flags g)) r

  pub reset_masks-mark : (r : List hb_glyph_info_t) → reset_masks 0 (mark bits r) ≡ reset_masks 0 r
  unfolding reset_masks
  reset_masks-mark r = map-mark (with_mask 0) bits reset_masks-with_glyph_flags r

  pub reset_masks-mark_part : (m : ℕ) (r : List hb_glyph_info_t) → reset_masks 0 (mark_part bits m r) ≡ reset_masks 0 r
  unfolding reset_masks
  reset_masks-mark_part m r = map-mark_part (with_mask 0) bits reset_masks-with_glyph_flags m r

  pub reset_masks-end_mark : (r : List hb_glyph_info_t) → reset_masks 0 (end_mark bits r) ≡ reset_masks 0 r
  unfolding end_mark
  reset_masks-end_mark r = reset_masks-mark_part (least (ends (clusters r))) r

  pub reset_masks-map_marked : (r : List hb_glyph_info_t)
      → reset_masks 0 (map (with_glyph_flags bits) r) ≡ reset_masks 0 r
  unfolding reset_masks
  reset_masks-map_marked r = map-map_same (with_mask 0) (with_glyph_flags bits) reset_masks-with_glyph_flags r

  pub reading_marked_part : (l : List hb_glyph_info_t) (p q : ℕ) → p ≤ q
      → Reading l (take p l ++ mark bits (part l p q) ++ drop q l)
  reading_marked_part l p q up = reading_new_part l (mark bits (part l p q)) p q up (reset_masks-mark (part l p q))
