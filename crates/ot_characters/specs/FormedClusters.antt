-- Clusters of graphemes (HarfBuzz, `hb_form_clusters`).
use Rattle.std.specs.Prelude.{ℕ, zero, suc, ◌==◌, Bool, Some, length, nat_lt, bit_and, if◌then◌else◌}
use Rattle.rb_glyph.specs.declared.scratch.TheConstants.{HB_BUFFER_SCRATCH_FLAG_HAS_NON_ASCII}
use Rattle.glyph_lists.specs.Groups.{group_end}
use Rattle.shaping_buffer.specs.State.{State}
use Rattle.shaping_buffer.specs.ClusterStep.{merge_clusters, unsafe_to_break}
use Rattle.script_items.specs.Graphemes.{is_same_grapheme}

-- a grapheme as one cluster, or unsafe to break
unfoldable pub grapheme_formed : Bool → ℕ → ℕ → State → State
grapheme_formed merges start end s =
    if merges then merge_clusters start end s else unsafe_to_break (Some start) (Some end) s

-- the graphemes from `start` on, at most `turns` of them
abbrev pub graphemes_formed : Bool → ℕ → ℕ → State → State
graphemes_formed merges zero start s = s
graphemes_formed merges (suc turns) start s =
    let end = group_end is_same_grapheme start s.input in
    let after = graphemes_formed merges turns end (grapheme_formed merges start end s) in
    if nat_lt start (length s.input) then after else s

-- all of a text with characters past ASCII: at the level 0 they are clusters
unfoldable pub with_clusters : State → State
with_clusters s =
    if bit_and s.scratch_flags HB_BUFFER_SCRATCH_FLAG_HAS_NON_ASCII == 0 then s
    else graphemes_formed (s.cluster_level == 0) (length s.input) 0 s
