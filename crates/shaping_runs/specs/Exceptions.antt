-- Calls that a law along lists leaves out: merges whose start is not widened past the cursor, those made with no output
-- open and glyphs before it; glyphs of the caller's that are put out; and calls that put out more than they read.
use Rattle.std.specs.Prelude.{⊤, ◌≡◌, ◌&&◌, Bool, true, false, not, List, [], ◌∷◌, nat_lt}
use Rattle.shaping_buffer.specs.State.{State}
use Rattle.shaping_buffer.specs.ClusterLevel.{groups_graphemes}
use Rattle.shaping_buffer.specs.ClusterStep.{is_input_range}
use Rattle.shaping_runs.specs.declared.call.Call.{Call}
use Rattle.shaping_runs.specs.declared.call.Call.TheVariants.{ReplaceGlyphs, OutputGlyph, OutputInfo, CopyGlyph}
use Rattle.shaping_runs.specs.declared.call.Call.TheVariants.{MergeClusters, MergeGraphemeClusters}
use Rattle.shaping_runs.specs.Replay.{turn}

-- the call is such a merge, within its condition
abbrev pub is_merge_stopped_at_cursor : Call → State → Bool
is_merge_stopped_at_cursor (MergeClusters start end) s =
    is_input_range start end s && (not s.have_output && nat_lt 0 s.idx)
is_merge_stopped_at_cursor (MergeGraphemeClusters start end) s =
    groups_graphemes s.cluster_level && (is_input_range start end s && (not s.have_output && nat_lt 0 s.idx))
is_merge_stopped_at_cursor call s = false

-- the call puts a glyph of the caller's out, within its condition
abbrev pub brings_glyph : Call → State → Bool
brings_glyph (OutputInfo g) s = s.have_output
brings_glyph call s = false

-- the call may put out more glyphs than it reads
abbrev pub adds_glyphs : Call → State → Bool
adds_glyphs (ReplaceGlyphs num_in num_out ids) s = nat_lt num_in num_out
adds_glyphs (OutputGlyph id) s = true
adds_glyphs (OutputInfo g) s = true
adds_glyphs CopyGlyph s = true
adds_glyphs call s = false

-- none of the calls is such a one, when its turn comes
abbrev pub NoneIs : (Call → State → Bool) → List Call → State → Type 0
NoneIs test [] s = ⊤
NoneIs test (call ∷ calls) s = (test call s ≡ false) × NoneIs test calls (turn call s).state

abbrev pub NoMergeStopsAtCursor : List Call → State → Type 0
NoMergeStopsAtCursor calls s = NoneIs is_merge_stopped_at_cursor calls s

abbrev pub NoGlyphIsBrought : List Call → State → Type 0
NoGlyphIsBrought calls s = NoneIs brings_glyph calls s

abbrev pub NoGlyphIsAdded : List Call → State → Type 0
NoGlyphIsAdded calls s = NoneIs adds_glyphs calls s
