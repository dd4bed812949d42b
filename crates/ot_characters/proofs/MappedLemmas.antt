-- A buffer whose glyphs are mapped in their places.
use Rattle.std.proofs.Common.{◌≡◌, List, ◌++◌, length, take, map, ap, ◌∙◌, arith}
use Rattle.std.proofs.lemmas.List.{append-nil, drop_all, take_all, length-map}
use Rattle.std.specs.List.{refill}
use Rattle.rb_glyph.specs.declared.info.hb_glyph_info_t.{hb_glyph_info_t}
use Rattle.glyph_lists.specs.Clusters.{clusters}
use Rattle.glyph_lists.proofs.PartsLemmas.{map-map_same}
use Rattle.shaping_buffer.specs.State.{State}
use Rattle.shaping_buffer.specs.Lending.{with_input}
use Rattle.shaping_buffer.specs.KeepsClusters.{KeepsClusters}
use Rattle.shaping_buffer.proofs.ClosedKeepsLemmas.{keeps_with_input}

-- a list that is written over whole
refill_whole : (xs ws : List hb_glyph_info_t) → length ws ≡ length xs → refill (length xs) xs ws ≡ ws
refill_whole xs ws same =
    ap (λ (z : List hb_glyph_info_t). take (length xs) (ws ++ z)) (drop_all (length ws) xs (omega arith))
    ∙ ap (take (length xs)) (append-nil ws) ∙ take_all (length xs) ws (omega arith)

-- one is written over by what another function made of it
pub with_input-written : (s : State) (gs ws : List hb_glyph_info_t) → gs ≡ ws → length ws ≡ length s.input
    → with_input s gs ≡ record s { input = ws }
with_input-written s gs ws is same =
    ap (λ (l : List hb_glyph_info_t). record s { input = l })
    (ap (refill (length s.input) s.input) is ∙ refill_whole s.input ws same)

module _ (f : hb_glyph_info_t → hb_glyph_info_t) (s : State) (gs now : List hb_glyph_info_t) (was : now ≡ s.input)
    (is : gs ≡ map f now) where
  pub mapped_input : with_input s gs ≡ record s { input = map f s.input }
  mapped_input = with_input-written s gs (map f s.input) (is ∙ ap (map f) was) (length-map s.input f)

  pub keeps_mapped : ((g : hb_glyph_info_t) → (f g).cluster ≡ g.cluster) → KeepsClusters s (with_input s gs)
  keeps_mapped same =
      keeps_with_input s gs now was
      (ap clusters is ∙ map-map_same (λ (g : hb_glyph_info_t). g.cluster) f same now)
