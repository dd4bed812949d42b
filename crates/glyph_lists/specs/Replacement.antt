-- Replacement: a range of both sides is merged, and gives way to copies of its first glyph with other ids.
use Rattle.std.specs.Prelude.{ℕ, ◌++◌, Bool, List, map, take, drop, slice_index_or}
use Rattle.rb_glyph.specs.declared.info.hb_glyph_info_t.{hb_glyph_info_t}
use Rattle.glyph_lists.specs.Clusters.{zero_glyph}
use Rattle.glyph_lists.specs.Deletion.{merge_or_mark}

-- the glyph as it is, with each of the ids in turn
abbrev pub copies : hb_glyph_info_t → List ℕ → List hb_glyph_info_t
copies g ids = map (λ id. record g { glyph_id = id }) ids

-- Places p to q are merged, or in any order of clusters marked, and copies of the glyph at p then take their place.
unfoldable pub replacement : Bool → List hb_glyph_info_t → ℕ → ℕ → List ℕ → List hb_glyph_info_t
replacement any_order l p q ids =
    let m = merge_or_mark any_order l p q 0 in
    take p m ++ copies (slice_index_or m p zero_glyph) ids ++ drop q m
