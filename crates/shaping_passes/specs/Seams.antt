-- Seams: where a text may be cut.
use Rattle.std.specs.Prelude.{◌≡◌, ◌≤◌, ℕ, ◌-◌, ◌==◌, ◌&&◌, Bool, not, nat_lt, List, slice_index_or, if◌then◌else◌}
use Rattle.rb_glyph.specs.declared.info.hb_glyph_info_t.{hb_glyph_info_t}
use Rattle.rb_glyph.specs.Fields.{field}
use Rattle.glyph_lists.specs.Clusters.{zero_glyph}

-- the glyph at a place
abbrev pub glyph_at : List hb_glyph_info_t → ℕ → hb_glyph_info_t
glyph_at l k = slice_index_or l k zero_glyph

-- a line may not be broken before the glyph's cluster
abbrev pub is_unsafe : hb_glyph_info_t → Bool
is_unsafe g = field g.mask 0 1 == 1

-- Two neighbours may be parted: a cluster begins between them, and it is safe to break before the later one. In a text
-- from left to right that is the cluster of the second of them, and in one from right to left that of the first.
abbrev pub may_be_parted : hb_glyph_info_t → hb_glyph_info_t → Bool
may_be_parted g h =
    not (g.cluster == h.cluster) && not (is_unsafe (if nat_lt g.cluster h.cluster then h else g))

-- a text may be cut before the glyph at this place
abbrev pub may_be_cut : List hb_glyph_info_t → ℕ → Bool
may_be_cut l k = may_be_parted (glyph_at l (k - 1)) (glyph_at l k)

-- neighbours whose clusters rise are parted by the flag of the second, and those whose clusters fall by that of the first
pub record CutsAreSimple : Type 0 where
  pub rising : (g h : hb_glyph_info_t) → g.cluster ≤ h.cluster
      → may_be_parted g h ≡ (not (g.cluster == h.cluster) && not (is_unsafe h))
  pub falling : (g h : hb_glyph_info_t) → h.cluster ≤ g.cluster
      → may_be_parted g h ≡ (not (g.cluster == h.cluster) && not (is_unsafe g))
