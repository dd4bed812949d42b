-- What is written over the glyphs of a buffer.
use Rattle.std.proofs.Common.{◌≡◌, ℕ, List, length, map, refl, ap, ◌∙◌}
use Rattle.std.proofs.lemmas.Bool.{cond_both}
use Rattle.std.specs.Prelude.{nat_lt}
use Rattle.rb_glyph.specs.declared.info.hb_glyph_info_t.{hb_glyph_info_t}
use Rattle.glyph_lists.specs.Clusters.{clusters}
use Rattle.glyph_lists.proofs.PartsLemmas.{map-map_same}
use Rattle.shaping_buffer.specs.KeepsClusters.{KeepsClusters}
use Rattle.shaping_buffer.specs.Lending.{with_input, with_out}
use Rattle.shaping_buffer.specs.State.{State}
use Rattle.shaping_buffer.proofs.ClosedKeepsLemmas.{keeps_with_input}
use Rattle.script_items.specs.Item.{shaper_byte}
use Rattle.script_items.specs.Masks.{with_form_mask}
use Rattle.script_items.proofs.MoveLemmas.{take-refilled}

-- another list of the same length
pub with_input-is : (s : State) (ws ys : List hb_glyph_info_t) → ws ≡ ys → length ys ≡ length s.input
    → with_input s ws ≡ record s { input = ys }
with_input-is s ws ys is long =
    ap (λ (l : List hb_glyph_info_t). record s { input = l }) (take-refilled s.input ws (ap length is ∙ long) ∙ is)

pub with_out-is : (s : State) (ws ys : List hb_glyph_info_t) → ws ≡ ys → length ys ≡ length s.out
    → with_out s ws ≡ record s { out = ys }
with_out-is s ws ys is long =
    ap (λ (l : List hb_glyph_info_t). record s { out = l }) (take-refilled s.out ws (ap length is ∙ long) ∙ is)

-- each glyph is mapped, and stays in its cluster
pub keeps_mapped : (f : hb_glyph_info_t → hb_glyph_info_t) (s : State) (ws xs : List hb_glyph_info_t) → xs ≡ s.input → ws ≡ map f xs
    → ((g : hb_glyph_info_t) → (f g).cluster ≡ g.cluster) → KeepsClusters s (with_input s ws)
keeps_mapped f s ws xs was is same =
    keeps_with_input s ws xs was (ap clusters is ∙ map-map_same (λ (g : hb_glyph_info_t). g.cluster) f same xs)

pub with_form_mask-cluster : (masks : List ℕ) (g : hb_glyph_info_t) → (with_form_mask masks g).cluster ≡ g.cluster
with_form_mask-cluster masks g =
    cond_both (nat_lt (shaper_byte g) 8) _ g (λ (h : hb_glyph_info_t). h.cluster ≡ g.cluster) (λ _. refl) (λ _. refl)
