-- What reversals and deletion in place make of a buffer with no output open.
use Rattle.std.proofs.Common.{zero, suc}
use Rattle.std.specs.Prelude.{◌≡◌, ℕ, ◌&&◌, Bool, true, length, nat_lt, if◌then◌else◌, reverse as reverse_list}
use Rattle.std.specs.Option.{option_map}
use Rattle.rb_glyph.specs.declared.info.hb_glyph_info_t.{hb_glyph_info_t}
use Rattle.glyph_lists.specs.DeletingWalk.{sides_at, left_by_walk, kept_beside, walk_merges}
use Rattle.glyph_lists.specs.Groups as groups
use Rattle.shaping_buffer.specs.State.{State}
use Rattle.shaping_buffer.specs.Step.{next_glyph}
use Rattle.shaping_buffer.specs.ClusterStep.{any_order, flagged_if, head_of, merge_clusters, delete_glyph}

-- nothing differs but the glyphs of the list, their positions and the scratch flags
abbrev pub KeepsOthers : State → State → Type 0
KeepsOthers old new =
    new ≡ record old { input = new.input; positions = new.positions; scratch_flags = new.scratch_flags }

-- `reverse`: the list in reverse order, and its positions with it, where there are any
abbrev pub reverse : State → State
reverse s = record s { input = reverse_list s.input; positions = option_map reverse_list s.positions }

-- `reverse_range`: the places from start to end in reverse order
abbrev pub reverse_range : ℕ → ℕ → State → State
reverse_range start end s =
    record s {
      input = groups.reverse_range start end s.input;
      positions = option_map (groups.reverse_range start end) s.positions;
    }

-- the groups of the list in reverse order, each in its own order, and the positions with their glyphs
abbrev pub groups_in_reverse : groups.Test → State → State
groups_in_reverse test s =
    let lens = groups.group_lens test s.input in
    record s {
      input = groups.groups_in_reverse lens s.input;
      positions = option_map (groups.groups_in_reverse lens) s.positions;
    }

-- one group reversed in its place, and where this holds merged before
abbrev pub reverse_group : Bool → ℕ → ℕ → State → State
reverse_group merges start end s = reverse_range start end (if merges then merge_clusters start end s else s)

-- The groups from `start` on, at most `turns` of them: each is merged in the list as it then stands, and reversed in
-- its place.
abbrev pub merged_groups : groups.Test → ℕ → ℕ → State → State
merged_groups test zero start s = s
merged_groups test (suc turns) start s =
    let end = groups.group_end test start s.input in
    let after = merged_groups test turns end (reverse_group true start end s) in
    if nat_lt start (length s.input) then after else s

-- `reverse_groups`: the groups in reverse order, or where it merges the merged groups, each of them reversed, and then
-- the whole list
abbrev pub reverse_groups : groups.Test → Bool → State → State
reverse_groups test merges s =
    if merges then reverse (merged_groups test (length s.input) 0 s) else groups_in_reverse test s

-- `delete_glyphs_inplace`: what the deleting walk over the list leaves, with the positions of the glyphs that it keeps;
-- the cursor is at the start
abbrev pub delete_glyphs_inplace : (hb_glyph_info_t → Bool) → State → State
delete_glyphs_inplace test s =
    let start = sides_at 0 0 s.input in
    record s {
      input = left_by_walk (any_order s) test s.input;
      idx = 0;
      positions = option_map (kept_beside (any_order s) test start) s.positions;
      scratch_flags = flagged_if (any_order s && walk_merges (any_order s) test (length s.input) start) s;
    }

-- one call of the walk by calls: `delete_glyph` where the test holds of the current glyph as it then is, and else
-- `next_glyph`
abbrev pub call_of_walk : (hb_glyph_info_t → Bool) → State → State
call_of_walk test s = if test (head_of s) then delete_glyph s else (next_glyph s).state

-- that many calls of it
abbrev pub walk_by_calls : (hb_glyph_info_t → Bool) → ℕ → State → State
walk_by_calls test zero s = s
walk_by_calls test (suc calls) s = walk_by_calls test calls (call_of_walk test s)
