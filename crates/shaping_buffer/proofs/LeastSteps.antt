-- The least cluster stays at each step that drops no glyph.
use Rattle.std.proofs.Common.{◌≡◌, ◌⊎◌, inl, inr, ℕ, ◌-◌, ◌<◌, ◌≤◌, Bool, true, false, List, [], ◌∷◌, ◌++◌, length, map}
use Rattle.std.proofs.Common.{take, drop, refl, sym, ap, ◌∙◌, subst, arith, ltb, append_assoc, length-append}
use Rattle.std.specs.Prelude.{⊤}
use Rattle.std.proofs.lemmas.Bool.{cond_both, cases_lt, ltb-false}
use Rattle.std.proofs.lemmas.List.{append-nil, map-append, get_or_append_left, get_or-append_right}
use Rattle.rb_glyph.specs.declared.info.hb_glyph_info_t.{hb_glyph_info_t}
use Rattle.glyph_lists.specs.Parts.{part}
use Rattle.glyph_lists.specs.Clusters.{clusters, occurs, least, zero_glyph}
use Rattle.glyph_lists.specs.KeptClusters.{BringsNoCluster}
use Rattle.glyph_lists.specs.Marks.{with_glyph_flags, mark}
use Rattle.glyph_lists.specs.Masks.{reset_masks}
use Rattle.glyph_lists.specs.Scans.{two_part_scan}
use Rattle.glyph_lists.specs.Deletion.{merge_or_mark}
use Rattle.glyph_lists.specs.declared.glyph_flags.TheConstants.{BREAK_BITS}
use Rattle.glyph_laws.proofs.MarksLemmas.{reset_masks-mark, reset_masks-map_marked, reset_masks-new_part}
use Rattle.glyph_laws.proofs.NumbersLemmas.{Stands, Stands-from_occurs, occurs-from_stands, Stands-from_reading, IsLeast}
use Rattle.glyph_laws.proofs.NumbersLemmas.{IsLeast-least, least-from_IsLeast, stands_left, stands_right, run_merge_stands}
use Rattle.glyph_laws.proofs.NumbersLemmas.{run_merge_keeps_IsLeast}
use Rattle.glyph_laws.proofs.ReadingsLemmas.{at, clusters-but_masks}
use Rattle.shaping_buffer.specs.Step.{with_id}
use Rattle.shaping_buffer.proofs.Steps.{StepsKeep, KeepingSteps}
use Rattle.shaping_buffer.proofs.ReadingSteps.{reading_steps, reset_masks-two_part_scan}

-- c stands only where it stood in l
abbrev pub StoodIn : List hb_glyph_info_t → ℕ → List hb_glyph_info_t → Type 0
StoodIn l c xs = Stands c xs → Stands c l

pub stood_steps : (l : List hb_glyph_info_t) (c : ℕ) → StepsKeep (StoodIn l c) (λ _. ⊤)
stood_steps l c = reading_steps (StoodIn l c) (λ _. ⊤) tt (λ xs ys r h w. h (Stands-from_reading c xs ys r w))
    (λ floor _ xs p q in_xs h w. h (run_merge_stands xs p q floor c in_xs w))

-- the least of l is the least of xs
abbrev pub StaysLeast : List hb_glyph_info_t → List hb_glyph_info_t → Type 0
StaysLeast l xs = (c : ℕ) → IsLeast c l → IsLeast c xs

-- the same numbers
pub least_by : (c : ℕ) (xs ys : List hb_glyph_info_t) → ((d : ℕ) → Stands d ys → Stands d xs)
    → (Stands c xs → Stands c ys) → IsLeast c xs → IsLeast c ys
least_by c xs ys back on h = record {
  stands = on h.stands;
  low = λ k lt. let w = back (at ys k).cluster (k, lt, refl) in omega (arith, h.low w.0 w.1, w.2);
}

pub stands_alike : (c : ℕ) (xs ys : List hb_glyph_info_t) → clusters ys ≡ clusters xs → Stands c xs → Stands c ys
stands_alike c xs ys e w =
    Stands-from_occurs c ys (subst (λ cs. occurs c cs ≡ true) (sym e) (occurs-from_stands c xs w))

pub least_alike : (c : ℕ) (xs ys : List hb_glyph_info_t) → clusters ys ≡ clusters xs → IsLeast c xs → IsLeast c ys
least_alike c xs ys e = least_by c xs ys (λ d. stands_alike d ys xs (sym e)) (stands_alike c xs ys e)

-- in which of two lists it stands
pub stands_split : (c : ℕ) (l r : List hb_glyph_info_t) → Stands c (l ++ r) → Stands c l ⊎ Stands c r
stands_split c l r w = elim (cases_lt w.0 (length l)) [
  | inl lt ↦ inl (w.0, lt, ap (λ g. g.cluster) (sym (get_or_append_left l r zero_glyph w.0 lt)) ∙ w.2)
  | inr ge ↦ inr (
    w.0 - length l,
    omega (arith, w.1, length-append l r),
    ap (λ g. g.cluster) (sym (get_or-append_right l r (length l) w.0 zero_glyph refl ge)) ∙ w.2,
  )
]

-- more glyphs in between
pub stands_around : (c : ℕ) (out xs input : List hb_glyph_info_t) → Stands c (out ++ input)
    → Stands c ((out ++ xs) ++ input)
stands_around c out xs input w = elim (stands_split c out input w) [
  | inl a ↦ stands_left c (out ++ xs) input (stands_left c out xs a)
  | inr b ↦ stands_right c (out ++ xs) input b
]

-- while a glyph does
pub least_stays : (l m : List hb_glyph_info_t) → BringsNoCluster l m → StaysLeast l m → 0 < length m
    → least (clusters m) ≡ least (clusters l)
least_stays l m back stays some =
    let w = Stands-from_occurs (at m 0).cluster l
    (back (at m 0).cluster (occurs-from_stands (at m 0).cluster m (0, some, refl))) in
    least-from_IsLeast (least (clusters l)) m (stays (least (clusters l)) (IsLeast-least l (omega (arith, w.1))))

-- ---- the steps

clusters-renamed : (id : ℕ) (out input : List hb_glyph_info_t)
    → clusters ((out ++ map (with_id id) (take 1 input)) ++ drop 1 input) ≡ clusters (out ++ input)
clusters-renamed id out [] = ap clusters (append-nil (out ++ []))
clusters-renamed id out (x ∷ rest) =
    ap clusters (append_assoc out (with_id id x ∷ []) rest)
    ∙ map-append (λ g. g.cluster) out (with_id id x ∷ rest)
    ∙ sym (map-append (λ g. g.cluster) out (x ∷ rest))

-- a part gives way to one that is the same except for its masks
pub clusters-new_part : (l new : List hb_glyph_info_t) (p q : ℕ) → p ≤ q → reset_masks 0 new ≡ reset_masks 0 (part l p q)
    → clusters (take p l ++ new ++ drop q l) ≡ clusters l
clusters-new_part l new p q up same =
    clusters-but_masks (take p l ++ new ++ drop q l) l (reset_masks-new_part l new p q up same)

merged_least : (any_order : Bool) (l : List hb_glyph_info_t) (p q floor c : ℕ) → q ≤ length l → IsLeast c l
    → IsLeast c (merge_or_mark any_order l p q floor)
unfolding merge_or_mark
merged_least true l p q floor c in_l h =
    cond_both (ltb (q - p) 2) _ _ (IsLeast c) (λ _. h)
    (λ two. let far = ltb-false _ _ two in
    least_alike c l (take p l ++ mark BREAK_BITS (part l p q) ++ drop q l)
    (clusters-new_part l (mark BREAK_BITS (part l p q)) p q (omega arith) (reset_masks-mark BREAK_BITS (part l p q))) h)
merged_least false l p q floor c in_l h = run_merge_keeps_IsLeast l p q floor c in_l h

module _ (l : List hb_glyph_info_t) where
  alike : (xs ys : List hb_glyph_info_t) → clusters ys ≡ clusters xs → StaysLeast l xs → StaysLeast l ys
  alike xs ys e h c low = least_alike c xs ys e (h c low)

  around : (out new input : List hb_glyph_info_t)
      → ((d : ℕ) → Stands d ((out ++ new) ++ input) → Stands d (out ++ input)) → StaysLeast l (out ++ input)
      → StaysLeast l ((out ++ new) ++ input)
  around out new input back h c low =
      least_by c (out ++ input) ((out ++ new) ++ input) back (stands_around c out new input) (h c low)

  pub least_steps : KeepingSteps (StaysLeast l) (λ _. ⊤)
  least_steps = record {
    lowest = tt;
    renamed = λ id out input. alike (out ++ input) _ (clusters-renamed id out input);
    copied = λ id out input. around out _ input
        (λ d w. (stood_steps (out ++ input) d).keeping.copied id out input (λ v. v) w);
    doubled = λ out input. around out (take 1 input) input
        (λ d w. (stood_steps (out ++ input) d).keeping.doubled out input (λ v. v) w);
    after_merge =
        λ any_order xs p q floor _ in_l h c low. merged_least any_order xs p q floor c in_l (h c low);
    after_scan = λ any_order bits k safe xs p q up. alike xs _
        (clusters-new_part xs (two_part_scan any_order bits k (part xs p q)) p q up
        (reset_masks-two_part_scan any_order bits k (part xs p q)));
    after_mark = λ bits safe xs p q up. alike xs _
        (clusters-new_part xs (map (with_glyph_flags bits) (part xs p q)) p q up
        (reset_masks-map_marked bits (part xs p q)));
  }
