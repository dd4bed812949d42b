-- A buffer whose glyphs are mapped in their places: marks that are placed otherwise, and variation selectors that are shown.
use Rattle.std.proofs.Common.{◌≡◌, ℕ, true, false, List, map, refl, ap, ◌∙◌}
use Rattle.std.proofs.lemmas.Bool.{cond-true, cond-false, cond_both}
use Rattle.rb_glyph.specs.declared.info.hb_glyph_info_t.{hb_glyph_info_t}
use Rattle.glyph_lists.specs.Clusters.{clusters}
use Rattle.glyph_lists.proofs.PartsLemmas.{map-map_same}
use Rattle.shaping_buffer.specs.KeepsClusters.{KeepsClusters}
use Rattle.shaping_buffer.specs.Lending.{with_input}
use Rattle.shaping_buffer.specs.State.{State}
use Rattle.shaping_buffer.proofs.ClosedKeepsLemmas.{keeps_with_input}
use Rattle.script_items.specs.Marks.{is_mark, is_nonspacing, kept_class, with_class}
use Rattle.ot_positions.specs.Ending.{is_selector, shown_selector}
use Rattle.ot_positions.specs.FallbackMarks.{fallback_class, recategorized}

pub keeps_mapped : (f : hb_glyph_info_t → hb_glyph_info_t) (s : State) (ws xs : List hb_glyph_info_t) → xs ≡ s.input → ws ≡ map f xs
    → ((g : hb_glyph_info_t) → (f g).cluster ≡ g.cluster) → KeepsClusters s (with_input s ws)
keeps_mapped f s ws xs was is same =
    keeps_with_input s ws xs was (ap clusters is ∙ map-map_same (λ (g : hb_glyph_info_t). g.cluster) f same xs)

module _ (g : hb_glyph_info_t) where
  pub recategorized-mark : is_nonspacing g ≡ true → recategorized g ≡ with_class (fallback_class g.glyph_id (kept_class g)) g
  unfolding recategorized
  recategorized-mark is = cond-true (is_nonspacing g) (with_class (fallback_class g.glyph_id (kept_class g)) g) g is

  pub recategorized-other : is_nonspacing g ≡ false → recategorized g ≡ g
  unfolding recategorized
  recategorized-other is = cond-false (is_nonspacing g) (with_class (fallback_class g.glyph_id (kept_class g)) g) g is

  with_class-cluster : (class : ℕ) → (with_class class g).cluster ≡ g.cluster
  with_class-cluster class =
      cond_both (is_mark g) _ g (λ (h : hb_glyph_info_t). h.cluster ≡ g.cluster) (λ _. refl) (λ _. refl)

  pub recategorized-cluster : (recategorized g).cluster ≡ g.cluster
  unfolding recategorized
  recategorized-cluster =
      cond_both (is_nonspacing g) _ g (λ (h : hb_glyph_info_t). h.cluster ≡ g.cluster)
      (λ _. with_class-cluster (fallback_class g.glyph_id (kept_class g))) (λ _. refl)

pub shown_selector-cluster : (glyph : ℕ) (g : hb_glyph_info_t) → (shown_selector glyph g).cluster ≡ g.cluster
unfolding shown_selector
shown_selector-cluster glyph g =
    cond_both (is_selector g) _ g (λ (h : hb_glyph_info_t). h.cluster ≡ g.cluster) (λ _. refl) (λ _. refl)
