-- What is written beside the glyphs, and how a glyph goes for which another one stands.
use Rattle.std.specs.Prelude.{ℕ, ◌-◌, ◌==◌, ◌&&◌, ◌||◌, Bool, length, bit_and, nat_lt, not, slice_index_or, if◌then◌else◌}
use Rattle.rb_glyph.specs.declared.info.hb_glyph_info_t.{hb_glyph_info_t}
use Rattle.glyph_lists.specs.Clusters.{zero_glyph}
use Rattle.glyph_lists.specs.Marks.{with_glyph_flags}
use Rattle.ot_lookups.specs.LookupProps.{share}
use Rattle.shaping_buffer.specs.State.{State, place_of}
use Rattle.shaping_buffer.specs.ClusterStep.{any_order, delete_glyph}
use Rattle.shaping_buffer.specs.Lending.{with_cur, with_prev}
use Rattle.shaping_buffer.specs.Step.{skip_glyph}

-- the glyph so many places ahead of the cursor
abbrev pub glyph_ahead : ℕ → State → hb_glyph_info_t
glyph_ahead k s = slice_index_or s.input (place_of s k) zero_glyph

-- it takes the properties of another glyph, which are its words `var1` and `var2`
abbrev pub write_properties : ℕ → hb_glyph_info_t → State → State
write_properties k g s = with_cur s k (record (glyph_ahead k s) { var1 = g.var1; var2 = g.var2 })

-- whether the last glyph that was put out is in the cluster of the current one
abbrev pub has_twin_before : State → Bool
has_twin_before s =
    nat_lt 0 (length s.out)
    && ((slice_index_or s.out (length s.out - 1) zero_glyph).cluster == (glyph_ahead 0 s).cluster)

-- whether the next glyph is in the cluster of the current one
abbrev pub has_twin_behind : State → Bool
has_twin_behind s = nat_lt 1 (length s.input) && ((glyph_ahead 1 s).cluster == (glyph_ahead 0 s).cluster)

-- the glyph flags of the current glyph: the three low bits of its mask, of which the lowest is unsafe to break
abbrev pub flags_of_current : State → ℕ
flags_of_current s = bit_and (glyph_ahead 0 s).mask 7

-- the last glyph that was put out gets these glyph flags besides its own, or the next glyph does
abbrev pub hand_back : ℕ → State → State
hand_back flags s = with_prev s (with_glyph_flags flags (slice_index_or s.out (length s.out - 1) zero_glyph))

abbrev pub hand_ahead : ℕ → State → State
hand_ahead flags s = with_cur s 1 (with_glyph_flags flags (glyph_ahead 1 s))

-- The current glyph is to go. A glyph that is left in its cluster gets its glyph flags: where a break was unsafe it stays so. The
-- one before it stood in every range that was marked as unsafe to concatenate before the cluster.
abbrev pub hand_on : State → State
hand_on s =
    let flags = flags_of_current s in
    if has_twin_before s then (if share flags 1 then hand_back flags s else s)
    else if has_twin_behind s then hand_ahead flags s
    else s

-- where clusters may stand in any order, the cluster of a glyph that is deleted goes to the last ones that were put out, if theirs is
-- higher: the text may have stood between
abbrev pub gives_cluster : State → Bool
gives_cluster s =
    any_order s && not (has_twin_behind s) && nat_lt 0 (length s.out)
    && nat_lt (glyph_ahead 0 s).cluster (slice_index_or s.out (length s.out - 1) zero_glyph).cluster

-- The current glyph is dropped, for which the one before it stands. In another cluster it goes by the rule of deletion,
-- unless clusters may stand in any order.
abbrev pub drop_behind : State → State
drop_behind s = if has_twin_before s || any_order s then skip_glyph s else delete_glyph s
