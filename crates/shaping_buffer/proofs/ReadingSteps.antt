-- What readings and merges keep, each step keeps.
use Rattle.std.proofs.Common.{◌≡◌, ℕ, suc, ◌+◌, ◌-◌, ◌<◌, ◌≤◌, inl, inr, Bool, List, [], ◌∷◌, ◌++◌, length, map, take}
use Rattle.std.proofs.Common.{drop, min, cond, refl, sym, ap, ◌∙◌, subst, arith, eqb, length-append, length-drop}
use Rattle.std.proofs.Common.{append_assoc}
use Rattle.std.proofs.lemmas.Bool.{cond_both, cases_lt, eqb-true}
use Rattle.std.proofs.lemmas.List.{append-nil, map-append, length-map, take-append-drop, get_or_append_left}
use Rattle.std.proofs.lemmas.List.{get_or-append_right, get_or-append-add, get_or-map, get_or-drop}
use Rattle.rb_glyph.specs.declared.info.hb_glyph_info_t.{hb_glyph_info_t}
use Rattle.glyph_lists.specs.Parts.{part}
use Rattle.glyph_lists.specs.Clusters.{run_merge, zero_glyph}
use Rattle.glyph_lists.specs.Marks.{with_glyph_flags}
use Rattle.glyph_lists.specs.Masks.{reset_masks, with_mask}
use Rattle.glyph_lists.specs.Scans.{scan_least, part_scan, two_part_scan}
use Rattle.shaping_buffer.specs.Step.{with_id}
use Rattle.glyph_laws.proofs.ReadingsLemmas.{at, Reading, reading_alike, reading_dropped, reading_copied}
use Rattle.glyph_laws.proofs.ReadingsLemmas.{reading_but_masks}
use Rattle.glyph_laws.proofs.MarksLemmas.{reset_masks-mark_others, reset_masks-mark_part, reset_masks-map_marked}
use Rattle.glyph_laws.proofs.MarksLemmas.{reset_masks-new_part}
use Rattle.glyph_laws.proofs.DeletionLemmas.{merge_or_mark_keeps, deletion_keeps}
use Rattle.glyph_laws.proofs.ReplacementLemmas.{replaced_keeps}
use Rattle.shaping_buffer.proofs.Steps.{StepsKeep}

-- ---- readings

-- the first of two lists goes
reading_behind : (out input : List hb_glyph_info_t) → Reading (out ++ input) input
reading_behind out input = record {
  from = λ j. length out + j;
  up = λ i j h. omega arith;
  within = λ j h. omega (arith, length-append out input);
  cluster = λ j h. ap (λ g. g.cluster) (sym (get_or-append-add out input j zero_glyph));
  var2 = λ j h. ap (λ g. g.var2) (sym (get_or-append-add out input j zero_glyph));
}

-- the first glyph of the second list goes
reading_headless : (out input : List hb_glyph_info_t) → Reading (out ++ input) (out ++ drop 1 input)
reading_headless out [] = reading_alike (out ++ []) (out ++ []) refl (λ j h. refl) (λ j h. refl)
reading_headless out (x ∷ rest) = reading_dropped out x rest

-- the last glyph is repeated at the end, under another id
module _ (id : ℕ) (out : List hb_glyph_info_t) (some : 0 < length out) where
  abbrev again : List hb_glyph_info_t
  again = out ++ map (with_id id) (drop (length out - 1) out)

  length-again : length again ≡ length out + 1
  length-again = omega (
    arith,
    length-append out (map (with_id id) (drop (length out - 1) out)),
    length-map (drop (length out - 1) out) (with_id id),
    length-drop (length out - 1) out,
  )

  again_at : (f : hb_glyph_info_t → ℕ) → ((g : hb_glyph_info_t) → f (with_id id g) ≡ f g) → (j : ℕ) → j < length again
      → f (at again j) ≡ f (at out (min j (length out - 1)))
  again_at f same j h =
      let n = length-again in
      elim (cases_lt j (length out)) [
        | inl lt ↦
            let i : j ≡ min j (length out - 1) = omega arith in
            ap f (get_or_append_left out (map (with_id id) (drop (length out - 1) out)) zero_glyph j lt ∙ ap (at out) i)
        | inr ge ↦
            let last = drop (length out - 1) out in
            let i : length out - 1 + (j - length out) ≡ min j (length out - 1) = omega arith in
            ap f (get_or-append_right out (map (with_id id) last) (length out) j zero_glyph refl ge
            ∙ get_or-map (with_id id) last (j - length out) zero_glyph zero_glyph
            (omega (arith, length-drop (length out - 1) out)))
            ∙ same (at last (j - length out))
            ∙ ap f (get_or-drop (length out - 1) out (j - length out) zero_glyph ∙ ap (at out) i)
      ]

  reading_again : Reading out again
  reading_again = record {
    from = λ j. min j (length out - 1);
    up = λ i j h. omega arith;
    within = λ j h. omega arith;
    cluster = again_at (λ g. g.cluster) (λ g. refl);
    var2 = again_at (λ g. g.var2) (λ g. refl);
  }

-- ---- masks

-- two lists, one after the other
reset_masks-two : (out out2 input input2 : List hb_glyph_info_t) → reset_masks 0 out2 ≡ reset_masks 0 out
    → reset_masks 0 input2 ≡ reset_masks 0 input → reset_masks 0 (out2 ++ input2) ≡ reset_masks 0 (out ++ input)
unfolding reset_masks
reset_masks-two out out2 input input2 e e2 =
    map-append (with_mask 0) out2 input2 ∙ ap (λ l. l ++ map (with_mask 0) input2) e
    ∙ ap (λ l. map (with_mask 0) out ++ l) e2 ∙ sym (map-append (with_mask 0) out input)

module _ (any_order : Bool) (bits : ℕ) where
  reset_masks-part_scan : (m : ℕ) (r : List hb_glyph_info_t)
      → reset_masks 0 (part_scan any_order bits m r) ≡ reset_masks 0 r
  reset_masks-part_scan m r = cond_both any_order _ _ (λ l. reset_masks 0 l ≡ reset_masks 0 r)
      (λ _. reset_masks-mark_others bits m r) (λ _. reset_masks-mark_part bits m r)

  pub reset_masks-two_part_scan : (k : ℕ) (r : List hb_glyph_info_t)
      → reset_masks 0 (two_part_scan any_order bits k r) ≡ reset_masks 0 r
  unfolding two_part_scan
  reset_masks-two_part_scan k r =
      let m = scan_least any_order (take k r) (drop k r) in
      reset_masks-two (take k r) (part_scan any_order bits m (take k r)) (drop k r)
      (part_scan any_order bits m (drop k r))
      (reset_masks-part_scan m (take k r)) (reset_masks-part_scan m (drop k r))
      ∙ ap (reset_masks 0) (take-append-drop k r)

-- ---- the steps

module _ (P : List hb_glyph_info_t → Type 0) (Floor : ℕ → Type 0) (low : Floor 0)
    (reads : (xs ys : List hb_glyph_info_t) → Reading xs ys → P xs → P ys)
    (merges : (floor : ℕ) → Floor floor → (l : List hb_glyph_info_t) (p q : ℕ) → q ≤ length l → P l
    → P (run_merge l p q floor)) where
  -- a part gives way to one that is the same except for its masks
  new_part_keeps : (l new : List hb_glyph_info_t) (p q : ℕ) → p ≤ q → reset_masks 0 new ≡ reset_masks 0 (part l p q)
      → P l → P (take p l ++ new ++ drop q l)
  new_part_keeps l new p q up same = reads l (take p l ++ new ++ drop q l)
      (reading_but_masks l (take p l ++ new ++ drop q l) (sym (reset_masks-new_part l new p q up same)))

  -- a copy of the current glyph is put out, and then that glyph may go
  copied_head : (id : ℕ) (out : List hb_glyph_info_t) (x : hb_glyph_info_t) (rest : List hb_glyph_info_t)
      → P (out ++ x ∷ rest) → P ((out ++ with_id id x ∷ []) ++ x ∷ rest)
  copied_head id out x rest h = subst P (sym (append_assoc out (with_id id x ∷ []) (x ∷ rest)))
      (reads (out ++ x ∷ rest) (out ++ with_id id x ∷ x ∷ rest) (reading_copied out (with_id id x) x rest refl refl) h)

  renamed_keeps : (id : ℕ) (out input : List hb_glyph_info_t) → P (out ++ input)
      → P ((out ++ map (with_id id) (take 1 input)) ++ drop 1 input)
  renamed_keeps id out [] h = subst P (sym (append-nil (out ++ []))) h
  renamed_keeps id out (x ∷ rest) h = reads ((out ++ with_id id x ∷ []) ++ x ∷ rest)
      ((out ++ with_id id x ∷ []) ++ rest) (reading_dropped (out ++ with_id id x ∷ []) x rest)
      (copied_head id out x rest h)

  doubled_keeps : (out input : List hb_glyph_info_t) → P (out ++ input) → P ((out ++ take 1 input) ++ input)
  doubled_keeps out [] h = subst P (sym (append-nil (out ++ []))) h
  doubled_keeps out (x ∷ rest) h = subst P (sym (append_assoc out (x ∷ []) (x ∷ rest)))
      (reads (out ++ x ∷ rest) (out ++ x ∷ x ∷ rest) (reading_copied out x x rest refl refl) h)

  -- or of the last that was put out
  copied_last : (id : ℕ) (out : List hb_glyph_info_t) → P out → P (out ++ map (with_id id) (drop (length out - 1) out))
  copied_last id [] h = h
  copied_last id (g ∷ out) h = reads (g ∷ out) _ (reading_again id (g ∷ out) (omega arith)) h

  copied_keeps : (id : ℕ) (out input : List hb_glyph_info_t) → P (out ++ input)
      → P ((out ++ map (with_id id) (cond (eqb (length input) 0) (drop (length out - 1) out) (take 1 input))) ++ input)
  copied_keeps id out [] h = subst P (sym (append-nil (out ++ map (with_id id) (drop (length out - 1) out))))
      (copied_last id out (subst P (append-nil out) h))
  copied_keeps id out (x ∷ rest) h =
      cond_both (eqb (suc (length rest)) 0) _ _
      (λ (model : List hb_glyph_info_t). P ((out ++ map (with_id id) model) ++ x ∷ rest))
      (λ e. absurd (omega (arith, eqb-true (suc (length rest)) 0 e)))
      (λ _. copied_head id out x rest h)

  pub reading_steps : StepsKeep P Floor
  reading_steps = record {
    keeping = record {
      lowest = low;
      renamed = renamed_keeps;
      copied = copied_keeps;
      doubled = doubled_keeps;
      after_merge =
          λ any_order l p q floor allowed. merge_or_mark_keeps P floor reads (merges floor allowed) any_order l p q;
      after_scan = λ any_order bits k safe l p q up.
          new_part_keeps l (two_part_scan any_order bits k (part l p q)) p q up
          (reset_masks-two_part_scan any_order bits k (part l p q));
      after_mark = λ bits safe l p q up. new_part_keeps l (map (with_glyph_flags bits) (part l p q)) p q up
          (reset_masks-map_marked bits (part l p q));
    };
    cleared = λ out input. reads (out ++ input) input (reading_behind out input);
    dropped = λ out input. reads (out ++ input) (out ++ drop 1 input) (reading_headless out input);
    after_replacement =
        λ any_order l p q ids up in_l here. replaced_keeps any_order l p q ids up in_l here P reads (merges 0 low);
    after_deletion = deletion_keeps P reads (merges 0 low);
  }
