-- Masks set over a range of clusters, from a walk over the list.
use Rattle.std.proofs.Common.{◌≡◌, ℕ, List, map, cond}
use Rattle.std.proofs.lemmas.Bool.{eq-eqb, ne_eqb, cond-true, cond-false}
use Rattle.rb_glyph.specs.declared.info.hb_glyph_info_t.{hb_glyph_info_t}
use Rattle.glyph_lists.specs.Masks.{in_clusters, with_bits, set_masks}
use Rattle.glyph_lists.proofs.MapLemmas.{mapped_at, mapped_more, mapped_all}

-- what is done to one glyph
abbrev pub bits_set : ℕ → ℕ → ℕ → ℕ → hb_glyph_info_t → hb_glyph_info_t
bits_set value mask start end g = cond (in_clusters start end g.cluster) (with_bits value mask g) g

pub set_masks-none : (value mask start end : ℕ) (l : List hb_glyph_info_t) → mask ≡ 0
    → set_masks value mask start end l ≡ l
unfolding set_masks
set_masks-none value mask start end l h = cond-true _ _ _ (eq-eqb mask 0 h)

pub set_masks-each : (value mask start end : ℕ) (l : List hb_glyph_info_t) → (mask ≡ 0 → ⊥)
    → set_masks value mask start end l ≡ map (bits_set value mask start end) l
unfolding set_masks
set_masks-each value mask start end l h = cond-false _ _ _ (ne_eqb mask 0 h)

pub ruleset masks = (set_masks-none, set_masks-each, mapped_at, mapped_more, mapped_all)
