-- Marks: which glyphs of a range are marked as unsafe to break before.
use Rattle.std.specs.Prelude.{ℕ, ◌-◌, ◌==◌, ◌++◌, not, List, [], ◌∷◌, length, map, slice_index, bit_or, if◌then◌else◌}
use Rattle.std.specs.List.{prefix_len, suffix_len}
use Rattle.rb_glyph.specs.declared.info.hb_glyph_info_t.{hb_glyph_info_t}
use Rattle.glyph_lists.specs.Parts.{map_range}
use Rattle.glyph_lists.specs.Clusters.{clusters, least}

-- the glyph with the bits added to its mask
unfoldable pub with_glyph_flags : ℕ → hb_glyph_info_t → hb_glyph_info_t
with_glyph_flags bits g = record g { mask = bit_or g.mask bits }

-- each glyph that is not in cluster m gets the bits
abbrev pub mark_others : ℕ → ℕ → List hb_glyph_info_t → List hb_glyph_info_t
mark_others bits m r = map (λ g. if g.cluster == m then g else with_glyph_flags bits g) r

-- Mark: each glyph outside the least cluster of r gets the bits.
unfoldable pub mark : ℕ → List hb_glyph_info_t → List hb_glyph_info_t
mark bits r = mark_others bits (least (clusters r)) r

-- the first number and the last, none where the list is empty
unfoldable pub ends : List ℕ → List ℕ
ends [] = []
ends (c ∷ cs) = c ∷ slice_index (c ∷ cs) (length cs) ∷ []

-- One part of a scan by the ends, m being the least number of all ends. A part that begins with m is marked after its
-- last m, a part that ends with m before its first m, and of another part all that is not m.
unfoldable pub mark_part : ℕ → ℕ → List hb_glyph_info_t → List hb_glyph_info_t
mark_part bits m r =
    let cs = clusters r in
    if slice_index cs 0 == m
    then map_range (with_glyph_flags bits) r (length r - suffix_len (λ c. not (c == m)) cs) (length r)
    else (if slice_index cs (length r - 1) == m
    then map_range (with_glyph_flags bits) r 0 (prefix_len (λ c. not (c == m)) cs)
    else mark_others bits m r)

-- Scan by the ends, of one part.
unfoldable pub end_mark : ℕ → List hb_glyph_info_t → List hb_glyph_info_t
end_mark bits r = mark_part bits (least (ends (clusters r))) r

-- the least number of the ends of two parts
unfoldable pub ends_least : List hb_glyph_info_t → List hb_glyph_info_t → ℕ
ends_least r s = least (ends (clusters r) ++ ends (clusters s))
