-- What the headline says of a call: the length that it holds, the range that it merges or marks, when it reaches both
-- sides, and which glyphs a merge joins.
use Rattle.std.specs.Prelude.{◌≡◌, ℕ, ◌+◌, ◌-◌, ◌⊎◌, ◌&&◌, Bool, true, false, not, List, length, min, nat_le}
use Rattle.std.specs.Prelude.{if◌then◌else◌, slice_index}
use Rattle.rb_glyph.specs.declared.info.hb_glyph_info_t.{hb_glyph_info_t}
use Rattle.glyph_lists.specs.Parts.{part}
use Rattle.glyph_lists.specs.Clusters.{IsMonotone, clusters, occurs}
use Rattle.shaping_buffer.specs.State.{State}
use Rattle.shaping_buffer.specs.ClusterLevel.{groups_graphemes}
use Rattle.shaping_buffer.specs.ClusterStep.{both, both_place, any_order, range_start, range_end}
use Rattle.shaping_runs.specs.declared.call.Call.{Call}
use Rattle.shaping_runs.specs.declared.call.Call.TheVariants.{NextGlyph, NextGlyphs, SkipGlyph, ReplaceGlyph}
use Rattle.shaping_runs.specs.declared.call.Call.TheVariants.{ReplaceGlyphs, DeleteGlyph}
use Rattle.shaping_runs.specs.declared.call.Call.TheVariants.{OutputGlyph, OutputInfo, CopyGlyph, MoveTo, Sync}
use Rattle.shaping_runs.specs.declared.call.Call.TheVariants.{MergeClusters, MergeOutClusters, UnsafeToBreak}
use Rattle.shaping_runs.specs.declared.call.Call.TheVariants.{UnsafeToBreakFromOutbuffer, MergeGraphemeClusters}

-- ---- length

-- With an output open a call holds one side: what it puts out and what was put out before, or what a move back leaves
-- to read, or both sides as the list. Other calls hold nothing.
abbrev pub held_open : Call → State → ℕ
held_open NextGlyph s = length s.out + 1
held_open (NextGlyphs n) s = length s.out + n
held_open (ReplaceGlyph id) s = length s.out + 1
held_open (ReplaceGlyphs num_in num_out ids) s = length s.out + num_out
held_open (OutputGlyph id) s = length s.out + min 1 (length (both s))
held_open (OutputInfo g) s = length s.out + 1
held_open CopyGlyph s = length s.out + 1
held_open (MoveTo place) s = if nat_le (length s.out) place then place else length (both s) - place
held_open Sync s = length (both s)
held_open call s = 0

-- how many glyphs the side has that the call holds; with no output open it holds nothing
abbrev pub held : Call → State → ℕ
held call s = if s.have_output then held_open call s else 0

-- the calls that go on only after `clear` once a call was refused for length
abbrev pub moves_or_syncs : Call → Bool
moves_or_syncs (MoveTo place) = true
moves_or_syncs Sync = true
moves_or_syncs call = false

-- the call is such a one, with an output open and after a refusal
abbrev pub awaits_clear : Call → State → Bool
awaits_clear call s = moves_or_syncs call && (s.have_output && not s.successful)

-- ---- calls in place

-- the calls that read glyphs, and put out these alone, or none
abbrev pub goes_on : Call → Bool
goes_on NextGlyph = true
goes_on (NextGlyphs n) = true
goes_on SkipGlyph = true
goes_on (ReplaceGlyph id) = true
goes_on DeleteGlyph = true
goes_on call = false

-- ---- merges and marks

-- merges change clusters, and those of both sides are monotone
pub record HasMonotoneClusters (s : State) : Type 0 where
  pub level : any_order s ≡ false
  pub order : IsMonotone (both s)

-- a merge may go on through both sides: an output is open, or the cursor is at the start
abbrev pub ReachesBothSides : State → Type 0
ReachesBothSides s = (s.have_output ≡ true) ⊎ (s.idx ≡ 0)

-- the calls that merge clusters: `merge_grapheme_clusters` where the level groups graphemes
abbrev pub is_merge : Call → State → Bool
is_merge (MergeClusters start end) s = true
is_merge (MergeOutClusters start end) s = true
is_merge (MergeGraphemeClusters start end) s = groups_graphemes s.cluster_level
is_merge call s = false

-- the calls that mark as unsafe to break: `merge_grapheme_clusters` at the other levels
abbrev pub is_break : Call → State → Bool
is_break (UnsafeToBreak start end) s = true
is_break (UnsafeToBreakFromOutbuffer start end) s = true
is_break (MergeGraphemeClusters start end) s = not (groups_graphemes s.cluster_level)
is_break call s = false

-- where the range of such a call begins, by places in both sides
abbrev pub from_place : Call → State → ℕ
from_place (MergeClusters start end) s = both_place s start
from_place (MergeOutClusters start end) s = start
from_place (MergeGraphemeClusters start end) s = both_place s start
from_place (UnsafeToBreak start end) s = both_place s (range_start start)
from_place (UnsafeToBreakFromOutbuffer start end) s = range_start start
from_place call s = 0

-- where it ends
abbrev pub to_place : Call → State → ℕ
to_place (MergeClusters start end) s = both_place s end
to_place (MergeOutClusters start end) s = end
to_place (MergeGraphemeClusters start end) s = both_place s end
to_place (UnsafeToBreak start end) s = both_place s (range_end end s)
to_place (UnsafeToBreakFromOutbuffer start end) s = both_place s (range_end end s)
to_place call s = 0

-- the glyphs of the range
abbrev pub range_of : Call → State → List hb_glyph_info_t
range_of call s = part (both s) (from_place call s) (to_place call s)

-- ---- which glyphs share a cluster

-- the glyphs at two places of a list share a cluster
abbrev pub ShareCluster : List hb_glyph_info_t → ℕ → ℕ → Type 0
ShareCluster l i j = slice_index (clusters l) i ≡ slice_index (clusters l) j

-- the cluster of the glyph at a place of both sides occurs in the range of the call
abbrev pub HasClusterInRange : Call → State → ℕ → Type 0
HasClusterInRange call s i = occurs (slice_index (clusters (both s)) i) (clusters (range_of call s)) ≡ true

-- a merge leaves the glyphs at two places in one cluster: they shared one, or both their clusters occur in its range
abbrev pub AreJoined : Call → State → ℕ → ℕ → Type 0
AreJoined call s i j = ShareCluster (both s) i j ⊎ (HasClusterInRange call s i × HasClusterInRange call s j)
