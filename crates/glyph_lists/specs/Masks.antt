-- Masks of features, set over ranges of clusters.
use Rattle.std.specs.Prelude.{ℕ, ◌-◌, ◌==◌, ◌&&◌, ◌||◌, Bool, List, map, nat_lt, nat_le, bit_and, bit_or, if◌then◌else◌}
use Rattle.rb_glyph.specs.declared.info.hb_glyph_info_t.{hb_glyph_info_t}

-- the largest number of 32 bits, all of which are set
abbrev pub u32_max : ℕ
u32_max = 4294967295

-- the glyph with this mask
unfoldable pub with_mask : ℕ → hb_glyph_info_t → hb_glyph_info_t
with_mask m g = record g { mask = m }

-- every mask becomes this one
unfoldable pub reset_masks : ℕ → List hb_glyph_info_t → List hb_glyph_info_t
reset_masks m l = map (with_mask m) l

-- whether a range of clusters holds c: from the start, before the end; and 0 to the largest number is all of them
abbrev pub in_clusters : ℕ → ℕ → ℕ → Bool
in_clusters start end c = ((start == 0) && (end == u32_max)) || (nat_le start c && nat_lt c end)

-- the bits of `mask` become those of `value`, and the others stay
unfoldable pub with_bits : ℕ → ℕ → hb_glyph_info_t → hb_glyph_info_t
with_bits value mask g = record g { mask = bit_or (bit_and g.mask (u32_max - mask)) (bit_and value mask) }

-- The bits of `mask` are set to those of `value` in each glyph whose cluster is in the range. The mask 0 sets nothing.
unfoldable pub set_masks : ℕ → ℕ → ℕ → ℕ → List hb_glyph_info_t → List hb_glyph_info_t
set_masks value mask start end l =
    if mask == 0 then l else map (λ g. if in_clusters start end g.cluster then with_bits value mask g else g) l
