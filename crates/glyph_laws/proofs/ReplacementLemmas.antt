-- Replacement reads a merge: what readings and merges keep, it keeps, and the least cluster stands where a copy does.
use Rattle.std.proofs.Common.{◌≡◌, ℕ, ◌+◌, ◌-◌, ◌<◌, ◌≤◌, inl, inr, Bool, false, List, ◌++◌, length, get_or, take, drop}
use Rattle.std.proofs.Common.{refl, sym, ap, ◌∙◌, subst, arith, length-take, length-drop}
use Rattle.std.proofs.lemmas.Bool.{cases_lt}
use Rattle.std.proofs.lemmas.List.{get_or-map, get_or-take, get_or-drop, length-map}
use Rattle.std.proofs.lemmas.List.Elements.{All-from_get_or}
use Rattle.rb_glyph.specs.declared.info.hb_glyph_info_t.{hb_glyph_info_t}
use Rattle.glyph_lists.specs.Clusters.{clusters, least, run_merge, zero_glyph, IsMonotone, IsCoarse}
use Rattle.glyph_lists.specs.Deletion.{merge_or_mark}
use Rattle.glyph_lists.specs.GlyphFlags.{BreakImpliesConcat, FlagsAgree}
use Rattle.glyph_lists.specs.Replacement.{copies, replacement}
use Rattle.glyph_lists.proofs.RunsLemmas.{widened_start-le, widened_end-ge}
use Rattle.glyph_lists.proofs.MergesLemmas.{length-run_merge, run_merge_inside}
use Rattle.glyph_laws.proofs.OrderLemmas.{run_merge_keeps_order, run_merge_keeps_coarse}
use Rattle.glyph_laws.proofs.ReadingsLemmas.{Reading, at, reading_replaced, monotone_reading, coarse_reading}
use Rattle.glyph_laws.proofs.DeletionLemmas.{merge_or_mark_keeps}
use Rattle.glyph_lists.proofs.LengthsLemmas.{length-merge_or_mark}
use Rattle.glyph_laws.proofs.NumbersLemmas.{Stands, Stands-from_reading, stands_left, stands_right, IsLeast}
use Rattle.glyph_laws.proofs.NumbersLemmas.{IsLeast-least, least-from_IsLeast, run_merge_stands}
use Rattle.glyph_laws.proofs.NumbersLemmas.{run_merge_keeps_IsLeast}
use Rattle.glyph_laws.proofs.GlyphFlagsLemmas.{new_part_keeps_flags, merge_or_mark_keeps_flags}

length-copies : (g : hb_glyph_info_t) (ids : List ℕ) → length (copies g ids) ≡ length ids
length-copies g ids = length-map ids (λ id. record g { glyph_id = id })

-- what reads no id finds each copy as the glyph
copy_at : (f : hb_glyph_info_t → ℕ) (g : hb_glyph_info_t) → ((id : ℕ) → f (record g { glyph_id = id }) ≡ f g)
    → (ids : List ℕ) (k : ℕ) → k < length (copies g ids) → f (at (copies g ids) k) ≡ f g
copy_at f g reads_no_id ids k h =
    ap f (get_or-map (λ id. record g { glyph_id = id }) ids k 0 zero_glyph (omega (arith, length-copies g ids)))
    ∙ reads_no_id (get_or ids k 0)

module _ (any_order : Bool) (l : List hb_glyph_info_t) (p q : ℕ) (ids : List ℕ) (up : p ≤ q) (in_l : q ≤ length l)
    (here : p < length l) where
  abbrev after_merge : List hb_glyph_info_t
  after_merge = merge_or_mark any_order l p q 0

  -- after the merge, the replacement reads it
  reading_replaced_of_merged : Reading after_merge (replacement any_order l p q ids)
  unfolding replacement
  reading_replaced_of_merged =
      let n = length-merge_or_mark any_order l p q 0 in
      reading_replaced after_merge (copies (at after_merge p) ids) p q up (omega arith) (omega arith)
      (copy_at (λ g. g.cluster) (at after_merge p) (λ _. refl) ids)
      (copy_at (λ g. g.var2) (at after_merge p) (λ _. refl) ids)

  -- what readings and merges keep, a replacement keeps
  pub replaced_keeps : (P : List hb_glyph_info_t → Type 0)
      → ((xs ys : List hb_glyph_info_t) → Reading xs ys → P xs → P ys)
      → ((xs : List hb_glyph_info_t) (a b : ℕ) → b ≤ length xs → P xs → P (run_merge xs a b 0)) → P l
      → P (replacement any_order l p q ids)
  replaced_keeps P reads merges h = reads after_merge (replacement any_order l p q ids) reading_replaced_of_merged
      (merge_or_mark_keeps P 0 reads merges any_order l p q in_l h)

  -- order, coarse lists, numbers and flags
  pub replaced_keeps_order : IsMonotone l → IsMonotone (replacement any_order l p q ids)
  replaced_keeps_order = replaced_keeps IsMonotone monotone_reading (λ xs a b. run_merge_keeps_order xs a b 0)

  pub replaced_keeps_coarse : IsCoarse l → IsCoarse (replacement any_order l p q ids)
  replaced_keeps_coarse = replaced_keeps IsCoarse coarse_reading run_merge_keeps_coarse

  pub replaced_stands : (c : ℕ) → Stands c (replacement any_order l p q ids) → Stands c l
  replaced_stands c = replaced_keeps (λ xs. Stands c xs → Stands c l)
      (λ xs ys r h w. h (Stands-from_reading c xs ys r w)) (λ xs a b in_xs h w. h (run_merge_stands xs a b 0 c in_xs w))
      (λ w. w)

  pub replaced_keeps_flags : FlagsAgree l → FlagsAgree (replacement any_order l p q ids)
  unfolding replacement
  replaced_keeps_flags h =
      let all : FlagsAgree after_merge = merge_or_mark_keeps_flags any_order l p q 0 h in
      let head : BreakImpliesConcat (at after_merge p).mask =
      all p zero_glyph (omega (arith, length-merge_or_mark any_order l p q 0)) in
      let same = copy_at (λ g. g.mask) (at after_merge p) (λ _. refl) ids in
      new_part_keeps_flags after_merge (copies (at after_merge p) ids) p q all
      (All-from_get_or (λ g. BreakImpliesConcat g.mask) (copies (at after_merge p) ids) zero_glyph
      (λ k lt. subst BreakImpliesConcat (sym (same k lt)) head))

-- where merges change clusters, and a copy stands, so does the least cluster
module _ (l : List hb_glyph_info_t) (p q : ℕ) (ids : List ℕ) (up : p ≤ q) (in_l : q ≤ length l) (here : p < length l)
    (some : 0 < length ids) where
  abbrev after_run_merge : List hb_glyph_info_t
  after_run_merge = run_merge l p q 0

  -- the places that are replaced are in one cluster
  range_is_one : (k : ℕ) → p ≤ k → k < q → (at after_run_merge k).cluster ≡ (at after_run_merge p).cluster
  range_is_one k h h2 =
      let some_range : p < q = omega arith in
      let start = widened_start-le (clusters l) p q 0 in
      let end = widened_end-ge (clusters l) p q in
      run_merge_inside l p q 0 some_range k (omega arith) (omega arith) (omega arith)
      ∙ sym (run_merge_inside l p q 0 some_range p here (omega arith) (omega arith))

  least_stands_after_replacement : (c : ℕ) → IsLeast c l → Stands c (replacement false l p q ids)
  unfolding replacement merge_or_mark
  least_stands_after_replacement c h =
      let n = length-run_merge l p q 0 in
      let w = (run_merge_keeps_IsLeast l p q 0 c in_l h).stands in
      let k = w.0 in
      let before : List hb_glyph_info_t = take p after_run_merge in
      let middle : List hb_glyph_info_t = copies (at after_run_merge p) ids in
      let after : List hb_glyph_info_t = drop q after_run_merge in
      let n_before : length before ≡ p = simp length-take (omega arith) in
      let n_after : length after ≡ length after_run_merge - q = length-drop q after_run_merge in
      elim (cases_lt k p) [
        | inl lt ↦ stands_left c (before ++ middle) after
            (stands_left c before middle (
              k,
              omega arith,
              ap (λ g. g.cluster) (get_or-take p after_run_merge k zero_glyph lt) ∙ w.2,
            ))
        | inr ge ↦ elim (cases_lt k q) [
          | inl lt ↦
              let n_middle = length-copies (at after_run_merge p) ids in
              stands_left c (before ++ middle) after (stands_right c before middle (
                0,
                omega arith,
                copy_at (λ g. g.cluster) (at after_run_merge p) (λ _. refl) ids 0 (omega arith)
                    ∙ sym (range_is_one k ge lt) ∙ w.2,
              ))
          | inr ge2 ↦
              let i : q + (k - q) ≡ k = omega arith in
              stands_right c (before ++ middle) after (
                k - q,
                omega (arith, w.1),
                ap (λ g. g.cluster) (get_or-drop q after_run_merge (k - q) zero_glyph ∙ ap (at after_run_merge) i)
                    ∙ w.2,
              )
        ]
      ]

  pub least-replacement : least (clusters (replacement false l p q ids)) ≡ least (clusters l)
  least-replacement =
      let c = least (clusters l) in
      let h : IsLeast c l = IsLeast-least l (omega arith) in
      let new : List hb_glyph_info_t = replacement false l p q ids in
      least-from_IsLeast c new (record {
        stands = least_stands_after_replacement c h;
        low = λ k lt. let w = replaced_stands false l p q ids up in_l here (at new k).cluster (k, lt, refl) in
            omega (arith, h.low w.0 w.1, w.2);
      })
