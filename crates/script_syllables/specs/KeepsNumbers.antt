-- What a call keeps of the clusters of both sides where glyphs change places, whatever its answer.
use Rattle.std.specs.Prelude.{◌≡◌, List}
use Rattle.std.specs.List.Sorted.{IsPermutation}
use Rattle.rb_glyph.specs.declared.info.hb_glyph_info_t.{hb_glyph_info_t}
use Rattle.glyph_lists.specs.Clusters.{clusters}
use Rattle.glyph_lists.specs.KeptClusters.{BringsNoCluster, KeepsLeast}
use Rattle.shaping_buffer.specs.State.{State}
use Rattle.shaping_buffer.specs.ClusterStep.{both, any_order}

-- The level stays, no cluster number is new, and at the monotone levels the least cluster stays while a glyph does. The
-- order of clusters may become another.
pub record KeepsNumbers (old new : State) : Type 0 where
  pub level : new.cluster_level ≡ old.cluster_level
  pub numbers : BringsNoCluster (both old) (both new)
  pub least : KeepsLeast (any_order old) (both old) (both new)

-- the same clusters, in whatever order
abbrev pub SameClusters : List hb_glyph_info_t → List hb_glyph_info_t → Type 0
SameClusters old new = IsPermutation (clusters old) (clusters new)
