-- Glyphs in one cluster.
use Rattle.std.specs.Prelude.{◌≡◌, ◌<◌, ◌≤◌, ℕ, List, slice_index_or}
use Rattle.rb_glyph.specs.declared.info.hb_glyph_info_t.{hb_glyph_info_t}
use Rattle.shaping_buffer.specs.Clusters.{zero_glyph}

-- the glyphs from place `start` up to `end` are in the cluster of the first of them
abbrev pub AreAlike : ℕ → ℕ → List hb_glyph_info_t → Type 0
AreAlike start end l =
    (k : ℕ) → start ≤ k → k < end
    → (slice_index_or l k zero_glyph).cluster ≡ (slice_index_or l start zero_glyph).cluster
