-- What merges, deletion, flag calls and mask calls make of a buffer. Their ranges are places in the one list of both
-- sides.
use Rattle.std.specs.Prelude.{ℕ, ◌+◌, ◌-◌, ◌==◌, ◌&&◌, ◌||◌, ◌++◌, Bool, false, not, List, length, take, drop, min}
use Rattle.std.specs.Prelude.{nat_le, bit_and, bit_or, Option, Some, unwrap_or, slice_index_or, if◌then◌else◌}
use Rattle.rb_glyph.specs.declared.info.hb_glyph_info_t.{hb_glyph_info_t}
use Rattle.rb_glyph.specs.declared.flag_sets.BufferFlags.{BufferFlags}
use Rattle.rb_glyph.specs.declared.flag_sets.TheConstants.BufferFlags.{PRODUCE_UNSAFE_TO_CONCAT}
use Rattle.rb_glyph.specs.declared.flag_sets.TheConstants.BufferFlags.{PRODUCE_SAFE_TO_INSERT_TATWEEL}
use Rattle.rb_glyph.specs.declared.glyph_flag.TheConstants.{UNSAFE_TO_CONCAT, SAFE_TO_INSERT_TATWEEL}
use Rattle.rb_glyph.specs.declared.scratch.TheConstants.{HB_BUFFER_SCRATCH_FLAG_HAS_GLYPH_FLAGS}
use Rattle.glyph_lists.specs.declared.glyph_flags.TheConstants.{BREAK_BITS}
use Rattle.glyph_lists.specs.Parts.{on_part, map_range, is_short}
use Rattle.glyph_lists.specs.Clusters.{zero_glyph, run_merge}
use Rattle.glyph_lists.specs.Marks.{with_glyph_flags}
use Rattle.glyph_lists.specs.Scans.{scan_of, two_part_scan}
use Rattle.glyph_lists.specs.Deletion.{merge_or_mark, deletion, merges_next}
use Rattle.glyph_lists.specs.Masks as masks
use Rattle.shaping_buffer.specs.State.{State, len}
use Rattle.shaping_buffer.specs.ClusterLevel.{allows_any_order, groups_graphemes}

-- ---- both sides as one list

-- what was put out, and then what is left to read; with no output open the whole list
abbrev pub both : State → List hb_glyph_info_t
both s = s.out ++ s.input

-- both sides replaced by another list, cut where the out side ends
abbrev pub with_both : List hb_glyph_info_t → State → State
with_both l s = record s { out = take (length s.out) l; input = drop (length s.out) l }

-- how many glyphs of the input stand before `input`
abbrev pub input_start : State → ℕ
input_start s = if s.have_output then s.idx else 0

-- where glyph k of the input, counted from its origin, stands in both sides
abbrev pub both_place : State → ℕ → ℕ
both_place s k = length s.out + (k - input_start s)

-- a merge goes no further down than this: through the out side while an output is open, and else to the cursor
abbrev pub floor_of : State → ℕ
floor_of s = if s.have_output then 0 else s.idx

-- ---- levels and scratch flags

-- At the buffer's level clusters may stand in any order. What follows takes this as an argument wherever it reads the
-- level.
abbrev pub any_order : State → Bool
any_order s = allows_any_order s.cluster_level

-- the scratch flags, and where this holds the one that says that there are glyph flags
abbrev pub flagged_if : Bool → State → ℕ
flagged_if holds s = if holds then bit_or s.scratch_flags HB_BUFFER_SCRATCH_FLAG_HAS_GLYPH_FLAGS else s.scratch_flags

-- there are glyph flags
abbrev pub flagged : State → State
flagged s = record s { scratch_flags = bit_or s.scratch_flags HB_BUFFER_SCRATCH_FLAG_HAS_GLYPH_FLAGS }

-- ---- merges

-- the run merge of a range of both sides, or in any order of clusters its mark
abbrev pub merge_sides : Bool → ℕ → ℕ → State → State
merge_sides any_order from to s = with_both (merge_or_mark any_order (both s) from to (floor_of s)) s

-- the merge of a range of the input, or in any order its mark, unless it is short
abbrev pub merge_input : Bool → ℕ → ℕ → State → State
merge_input any_order start end s =
    record (merge_sides any_order (both_place s start) (both_place s end) s)
    { scratch_flags = flagged_if (any_order && not (is_short start end)) s }

-- `merge_clusters`
abbrev pub merge_clusters : ℕ → ℕ → State → State
merge_clusters start end s = merge_input (any_order s) start end s

-- the run merge of a range of the out side, which may go on into the input, or in any order nothing
abbrev pub merge_out : Bool → ℕ → ℕ → State → State
merge_out any_order start end s = with_both (if any_order then both s else run_merge (both s) start end 0) s

-- `merge_out_clusters`
abbrev pub merge_out_clusters : ℕ → ℕ → State → State
merge_out_clusters start end s = merge_out (any_order s) start end s

-- ---- deletion

-- the current glyph, the first that is left to read
abbrev pub head_of : State → hb_glyph_info_t
head_of s = slice_index_or s.input 0 zero_glyph

-- the current glyph goes by the rule of deletion, and the cursor goes on
abbrev pub head_deleted : Bool → State → State
head_deleted any_order s =
    let d = deletion any_order s.out (head_of s) (drop 1 s.input) in
    record s { out = d.out; input = d.rest; idx = s.idx + 1 }

-- the same with its scratch flag: in any order of clusters a merge with the next glyph marks
abbrev pub delete_current : Bool → State → State
delete_current any_order s =
    let marks = any_order && merges_next s.out (head_of s) (drop 1 s.input) in
    record (head_deleted any_order s) { scratch_flags = flagged_if marks s }

-- `delete_glyph`
abbrev pub delete_glyph : State → State
delete_glyph s = delete_current (any_order s) s

-- ---- glyph flags

-- the range of a flag call: from the start where none is named, and to the end, to which it is cut
abbrev pub range_start : Option ℕ → ℕ
range_start start = unwrap_or start 0

abbrev pub range_end : Option ℕ → State → ℕ
range_end end s = min (unwrap_or end (len s)) (len s)

-- a scan from place p up to place q
abbrev pub scan : Bool → ℕ → ℕ → ℕ → State → State
scan any_order bits p q s = flagged (with_both (on_part (scan_of any_order bits) (both s) p q) s)

-- a scan of the input's glyphs from start up to end, unless they are fewer than two
abbrev pub plain_scan : Bool → ℕ → ℕ → ℕ → State → State
plain_scan any_order bits start end s =
    if is_short start end then s else scan any_order bits (both_place s start) (both_place s end) s

-- A scan of two parts, what lies of places p to q on either side. With no output open the first of them is empty.
abbrev pub scan_sides : Bool → ℕ → ℕ → ℕ → State → State
scan_sides any_order bits p q s =
    flagged (with_both (on_part (two_part_scan any_order bits (length s.out - p)) (both s) p q) s)

-- the bits for all glyphs from place p up to place q
abbrev pub flag_all : ℕ → ℕ → ℕ → State → State
flag_all bits p q s = flagged (with_both (map_range (with_glyph_flags bits) (both s) p q) s)

-- whether a flag of the buffer is on
abbrev pub asks : BufferFlags → State → Bool
asks flag s = bit_and s.flags.0 flag.0 == flag.0

-- `unsafe_to_break`
abbrev pub unsafe_to_break : Option ℕ → Option ℕ → State → State
unsafe_to_break start end s = plain_scan (any_order s) BREAK_BITS (range_start start) (range_end end s) s

-- `unsafe_to_break_from_outbuffer`
abbrev pub unsafe_to_break_from_outbuffer : Option ℕ → Option ℕ → State → State
unsafe_to_break_from_outbuffer start end s =
    scan_sides (any_order s) BREAK_BITS (range_start start) (both_place s (range_end end s)) s

-- the bits of `safe_to_insert_tatweel`: those of `unsafe_to_break`, unless the flag asks for a bit of its own
abbrev pub tatweel_bits : State → ℕ
tatweel_bits s = if asks PRODUCE_SAFE_TO_INSERT_TATWEEL s then SAFE_TO_INSERT_TATWEEL else BREAK_BITS

-- `safe_to_insert_tatweel`: as `unsafe_to_break`, with these bits
abbrev pub safe_to_insert_tatweel : Option ℕ → Option ℕ → State → State
safe_to_insert_tatweel start end s = plain_scan (any_order s) (tatweel_bits s) (range_start start) (range_end end s) s

-- `unsafe_to_concat`: only where the flag asks for it
abbrev pub unsafe_to_concat : Option ℕ → Option ℕ → State → State
unsafe_to_concat start end s =
    let from = both_place s (range_start start) in
    if asks PRODUCE_UNSAFE_TO_CONCAT s then flag_all UNSAFE_TO_CONCAT from (both_place s (range_end end s)) s else s

-- `unsafe_to_concat_from_outbuffer`: only where the flag asks for it
abbrev pub unsafe_to_concat_from_outbuffer : Option ℕ → Option ℕ → State → State
unsafe_to_concat_from_outbuffer start end s =
    let to = both_place s (range_end end s) in
    if asks PRODUCE_UNSAFE_TO_CONCAT s then flag_all UNSAFE_TO_CONCAT (range_start start) to s else s

-- ---- graphemes

-- `merge_grapheme_clusters`: where the level groups graphemes the run merge of a range of the input, and else
-- `unsafe_to_break` of it
abbrev pub merge_grapheme_clusters : ℕ → ℕ → State → State
merge_grapheme_clusters start end s =
    if groups_graphemes s.cluster_level then merge_sides false (both_place s start) (both_place s end) s
    else unsafe_to_break (Some start) (Some end) s

-- ---- conditions

-- a range of the input, not before the cursor while an output is open
abbrev pub is_input_range : ℕ → ℕ → State → Bool
is_input_range start end s = nat_le start end && (nat_le end (len s) && (not s.have_output || nat_le s.idx start))

-- a range of the out side
abbrev pub is_out_range : ℕ → ℕ → State → Bool
is_out_range start end s = s.have_output && (nat_le start end && nat_le end (length s.out))

-- a range of a call on both sides: while an output is open from the out side into the input, and else of the input
abbrev pub is_sides_range : ℕ → ℕ → State → Bool
is_sides_range start end s = if s.have_output then nat_le start (length s.out) && nat_le s.idx end else nat_le start end

-- ---- masks

-- `reset_masks`
abbrev pub reset_masks : ℕ → State → State
reset_masks m s = record s { input = masks.reset_masks m s.input }

-- `set_masks`
abbrev pub set_masks : ℕ → ℕ → ℕ → ℕ → State → State
set_masks value mask start end s = record s { input = masks.set_masks value mask start end s.input }
