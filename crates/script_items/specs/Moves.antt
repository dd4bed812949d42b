-- Items that are moved in front of others.
use Rattle.std.specs.Prelude.{◌≡◌, ◌<◌, ◌≤◌, ◌++◌, ℕ, Bool, List, false, take, drop, slice_index}
use Rattle.rb_glyph.specs.declared.info.hb_glyph_info_t.{hb_glyph_info_t}
use Rattle.glyph_lists.specs.Clusters.{clusters}
use Rattle.glyph_lists.specs.Parts.{part}

-- the items from `middle` to `end` in front of those from `start` to `middle`
abbrev pub moved : {X : Type 0} → ℕ → ℕ → ℕ → List X → List X
moved start middle end l = take start l ++ (part l middle end ++ part l start middle ++ drop end l)

-- the items from place `start` up to `end` are in one cluster, unless clusters may stand in any order
pub record IsOneCluster (any_order : Bool) (start end : ℕ) (l : List hb_glyph_info_t) : Type 0 where
  pub alike : any_order ≡ false → (k : ℕ) → start ≤ k → k < end
      → slice_index (clusters l) k ≡ slice_index (clusters l) start
