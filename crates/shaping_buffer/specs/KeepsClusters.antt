-- What a call keeps of the clusters of both sides, whatever its answer.
use Rattle.std.specs.Prelude.{◌≡◌, ◌<◌, ◌≤◌, ◌⊎◌, ◌++◌, ◌+◌, ◌-◌, ℕ, true, false, List, length, drop, slice_index}
use Rattle.std.specs.Prelude.{slice_index_or}
use Rattle.rb_glyph.specs.declared.info.hb_glyph_info_t.{hb_glyph_info_t}
use Rattle.glyph_lists.specs.Clusters.{clusters, occurs, zero_glyph}
use Rattle.glyph_lists.specs.Groups.{Test}
use Rattle.glyph_lists.specs.KeptClusters.{KeepsOrder, TurnsOrder, BringsNoCluster, KeepsLeast}
use Rattle.shaping_buffer.specs.State.{State}
use Rattle.shaping_buffer.specs.ClusterStep.{both, any_order, head_of}

-- The level stays, at the monotone levels clusters that rise still rise and those that fall still fall, and at every level
-- no cluster number is new.
pub record KeepsClusterOrder (old new : State) : Type 0 where
  pub level : new.cluster_level ≡ old.cluster_level
  pub order : KeepsOrder (any_order old) (both old) (both new)
  pub numbers : BringsNoCluster (both old) (both new)

-- And at the monotone levels the least cluster stays while a glyph does.
pub record KeepsClusters (old new : State) : Type 0 where
  pub ordered : KeepsClusterOrder old new
  pub least : KeepsLeast (any_order old) (both old) (both new)

-- The same of a list that is turned: at the monotone levels clusters that rose fall, and those that fell rise.
pub record TurnsClusters (old new : State) : Type 0 where
  pub level : new.cluster_level ≡ old.cluster_level
  pub order : TurnsOrder (any_order old) (both old) (both new)
  pub numbers : BringsNoCluster (both old) (both new)
  pub least : KeepsLeast (any_order old) (both old) (both new)

-- While an output is open another glyph is in the cluster of the current one.
abbrev pub HasTwin : State → Type 0
HasTwin s = s.have_output ≡ true → occurs (head_of s).cluster (clusters (s.out ++ drop 1 s.input)) ≡ true

-- The current glyph is in this cluster, or the last that was put out.
abbrev pub IsBeside : ℕ → State → Type 0
IsBeside c s =
    ((0 < length s.input) × ((head_of s).cluster ≡ c))
    ⊎ ((0 < length s.out) × ((slice_index_or s.out (length s.out - 1) zero_glyph).cluster ≡ c))

-- At the monotone levels the glyphs of the input from place `start` up to `end` are in one cluster.
abbrev pub IsOneCluster : ℕ → ℕ → State → Type 0
IsOneCluster start end s =
    any_order s ≡ false → (k : ℕ) → start ≤ k → k < end
    → slice_index (clusters s.input) k ≡ slice_index (clusters s.input) start

-- Neighbours that the test puts into one group are in one cluster.
abbrev pub ShareClusters : Test → List hb_glyph_info_t → Type 0
ShareClusters test l =
    (k : ℕ) → k + 1 < length l
    → test (slice_index_or l k zero_glyph) (slice_index_or l (k + 1) zero_glyph) ≡ true
    → (slice_index_or l (k + 1) zero_glyph).cluster ≡ (slice_index_or l k zero_glyph).cluster
