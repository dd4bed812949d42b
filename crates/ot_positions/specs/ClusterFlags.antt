-- Glyph flags that the glyphs of a cluster share (HarfBuzz, `hb_propagate_flags`).
use Rattle.std.specs.Prelude.{ℕ, zero, suc, Bool, List, [], ◌∷◌, ◌++◌, ◌-◌, ◌^◌, ◌==◌, not, map, take, drop, length, bit_and, bit_or, if◌then◌else◌}
use Rattle.std.specs.List.{fold, prefix_len}
use Rattle.glyph_lists.specs.Marks.{with_glyph_flags}
use Rattle.glyph_lists.specs.Masks.{with_mask}
use Rattle.rb_glyph.specs.declared.flag_sets.BufferFlags.{BufferFlags}
use Rattle.rb_glyph.specs.declared.flag_sets.TheConstants.BufferFlags.{PRODUCE_SAFE_TO_INSERT_TATWEEL, PRODUCE_UNSAFE_TO_CONCAT}
use Rattle.rb_glyph.specs.declared.glyph_flag.TheConstants.{DEFINED, SAFE_TO_INSERT_TATWEEL, UNSAFE_TO_BREAK, UNSAFE_TO_CONCAT}
use Rattle.rb_glyph.specs.declared.info.hb_glyph_info_t.{hb_glyph_info_t}
use Rattle.rb_glyph.specs.declared.scratch.TheConstants.{HB_BUFFER_SCRATCH_FLAG_HAS_GLYPH_FLAGS}
use Rattle.shaping_buffer.specs.State.{State}

-- ---- clusters of a text

-- how many glyphs at the beginning are in a cluster
unfoldable pub len_in : ℕ → List hb_glyph_info_t → ℕ
len_in cluster gs = prefix_len (λ g. g.cluster == cluster) gs

-- how many are in the cluster of the first
unfoldable pub first_len : List hb_glyph_info_t → ℕ
first_len [] = 0
first_len (g ∷ gs) = suc (len_in g.cluster gs)

-- each glyph becomes what f makes of its cluster and of it, in the first n clusters
unfoldable pub in_clusters : (List hb_glyph_info_t → hb_glyph_info_t → hb_glyph_info_t) → ℕ → List hb_glyph_info_t → List hb_glyph_info_t
in_clusters f zero gs = gs
in_clusters f (suc n) gs =
    let cluster = take (first_len gs) gs in map (f cluster) cluster ++ in_clusters f n (drop (first_len gs) gs)

-- the same in all, which are no more than glyphs
abbrev pub by_clusters : (List hb_glyph_info_t → hb_glyph_info_t → hb_glyph_info_t) → List hb_glyph_info_t → List hb_glyph_info_t
by_clusters f gs = in_clusters f (length gs) gs

-- ---- flags

-- the glyph flags that one of these glyphs has
abbrev pub flags_of : List hb_glyph_info_t → ℕ
flags_of gs = fold (λ flags g. bit_or flags (bit_and g.mask DEFINED)) 0 gs

-- the same, if one is unsafe to break
abbrev pub shared_flags : List hb_glyph_info_t → ℕ
shared_flags gs = if not (bit_and (flags_of gs) UNSAFE_TO_BREAK == 0) then flags_of gs else 0

-- a glyph gets those that its cluster shares
abbrev pub shared : List hb_glyph_info_t → hb_glyph_info_t → hb_glyph_info_t
shared cluster = with_glyph_flags (shared_flags cluster)

-- flags without one
abbrev pub without : ℕ → ℕ → ℕ
without flag flags = bit_and flags (2 ^ 32 - 1 - flag)

-- What is unsafe to break is not safe to insert a tatweel at; what is safe to insert a tatweel at is unsafe to break and to concatenate.
abbrev pub with_tatweel : ℕ → ℕ
with_tatweel flags =
    if not (bit_and flags UNSAFE_TO_BREAK == 0) then without SAFE_TO_INSERT_TATWEEL flags
    else if not (bit_and flags SAFE_TO_INSERT_TATWEEL == 0) then bit_or (bit_or flags UNSAFE_TO_BREAK) UNSAFE_TO_CONCAT
    else flags

-- the flags of a cluster whose glyphs have these, by what the buffer was asked for
abbrev pub flags_of_cluster : ℕ → BufferFlags → ℕ
flags_of_cluster flags asked =
    let all = if bit_and asked.0 PRODUCE_SAFE_TO_INSERT_TATWEEL.0 == PRODUCE_SAFE_TO_INSERT_TATWEEL.0 then with_tatweel flags else flags in
    if bit_and asked.0 PRODUCE_UNSAFE_TO_CONCAT.0 == PRODUCE_UNSAFE_TO_CONCAT.0 then all else without UNSAFE_TO_CONCAT all

-- a glyph has the flags of its cluster, and no other bits
abbrev pub propagated : BufferFlags → List hb_glyph_info_t → hb_glyph_info_t → hb_glyph_info_t
propagated asked cluster = with_mask (flags_of_cluster (flags_of cluster) asked)

-- ---- of a buffer

abbrev pub has_glyph_flags : State → Bool
has_glyph_flags s = not (bit_and s.scratch_flags HB_BUFFER_SCRATCH_FLAG_HAS_GLYPH_FLAGS == 0)

abbrev pub share_flags : State → State
share_flags s = if has_glyph_flags s then record s { input = by_clusters shared s.input } else s

abbrev pub propagate_flags : State → State
propagate_flags s = if has_glyph_flags s then record s { input = by_clusters (propagated s.flags) s.input } else s
