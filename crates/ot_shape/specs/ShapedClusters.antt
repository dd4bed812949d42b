-- What shaping keeps of the clusters of a text, whatever the font: a caret has a place at each glyph.
use Rattle.std.specs.Prelude.{◌≡◌, true, false}
use Rattle.rb_common.specs.Direction.{is_forward}
use Rattle.glyph_lists.specs.Clusters.{clusters}
use Rattle.glyph_lists.specs.KeptClusters.{Runs, BringsNoCluster, KeepsLeast}
use Rattle.shaping_buffer.specs.State.{State}
use Rattle.shaping_buffer.specs.ClusterStep.{any_order}

-- Each glyph is in a cluster of the text. At the monotone levels the least cluster stays while a glyph does, and where
-- the clusters of the text run up, those of the glyphs run up in a line that runs forward, and down in one that runs
-- backward.
pub record ShapedClusters (text glyphs : State) : Type 0 where
  pub numbers : BringsNoCluster text.input glyphs.input
  pub least : KeepsLeast (any_order text) text.input glyphs.input
  pub order : any_order text ≡ false → Runs true (clusters text.input)
      → Runs (is_forward glyphs.direction) (clusters glyphs.input)
