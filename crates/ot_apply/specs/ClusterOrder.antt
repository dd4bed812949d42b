-- How the clusters of a text run, what stages of substitution keep of them, and glyphs whose clusters are put in order.
use Rattle.std.specs.Prelude.{◌≡◌, ℕ, Bool, true, false, ⊤, List, [], ◌∷◌, min}
use Rattle.rb_glyph.specs.declared.info.hb_glyph_info_t.{hb_glyph_info_t}
use Rattle.glyph_lists.specs.Clusters.{least, with_cluster}
use Rattle.glyph_lists.specs.KeptClusters.{Runs}
use Rattle.shaping_buffer.specs.State.{State}
use Rattle.shaping_buffer.specs.KeepsClusters.{KeepsClusters}
use Rattle.shaping_buffer.specs.GroupStep.{reverse}
use Rattle.script_syllables.specs.KeepsNumbers.{KeepsNumbers}
use Rattle.script_shapers.specs.declared.syllables.SyllablePlan.{SyllablePlan}
use Rattle.ot_plan.specs.Shapers.{orders_syllables}
use Rattle.ot_apply.specs.declared.cluster_order.ClusterCourse.{ClusterCourse}
use Rattle.ot_apply.specs.declared.cluster_order.ClusterCourse.TheVariants.{Rising, Falling, Neither}

-- ---- glyphs whose clusters are put in order

-- for each number the least from its place on
unfoldable pub least_from : List ℕ → List ℕ
least_from [] = []
least_from (c ∷ cs) = least (c ∷ cs) ∷ least_from cs

-- a glyph in front of others: in the cluster of the first of them where that is lower, and then with its glyph flags
abbrev pub in_front_of : List hb_glyph_info_t → hb_glyph_info_t → hb_glyph_info_t
in_front_of [] g = g
in_front_of (h ∷ l) g = with_cluster (min g.cluster h.cluster) h.mask g

-- each glyph in front of those behind it, so that the clusters never fall
unfoldable pub rising : List hb_glyph_info_t → List hb_glyph_info_t
rising [] = []
rising (g ∷ l) = in_front_of (rising l) g ∷ rising l

-- ---- how the clusters of a text run

-- the numbers run this way
abbrev pub Takes : ClusterCourse → List ℕ → Type 0
Takes Rising cs = Runs true cs
Takes Falling cs = Runs false cs
Takes Neither cs = ⊤

-- and if they run neither way, this says so
abbrev pub IsCourseOf : ClusterCourse → List ℕ → Type 0
IsCourseOf Rising cs = Runs true cs
IsCourseOf Falling cs = Runs false cs
IsCourseOf Neither cs = (up : Bool) → Runs up cs → ⊥

-- the glyphs of a buffer, each in front of those behind it
abbrev pub raised : State → State
raised s = record s { input = rising s.input }

-- Clusters that ran this way are put in order. A text in which they fell is turned for that.
abbrev pub put_in_order : ClusterCourse → State → State
put_in_order Rising s = raised s
put_in_order Falling s = reverse (raised (reverse s))
put_in_order Neither s = s

-- ---- stages of substitution

-- What a stage keeps: the numbers of clusters, and where no syllables are put in order the clusters.
pub record KeepsStage (plan : SyllablePlan) (old new : State) : Type 0 where
  pub numbers : KeepsNumbers old new
  pub clusters : orders_syllables plan ≡ false → KeepsClusters old new
