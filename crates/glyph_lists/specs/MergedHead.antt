-- The current glyph, once the first glyphs of the input are merged, where the merge changes no glyph behind them
-- and none that was put out. The functions of `merged_head` alone speak of it, for the bodies that replace glyphs: no
-- contract of a buffer's call does.
use Rattle.std.specs.Prelude.{◌≡◌, ℕ, ◌+◌, ◌<◌, ◌++◌, Bool, true, List, length, take, drop, slice_index_or}
use Rattle.rb_glyph.specs.declared.info.hb_glyph_info_t.{hb_glyph_info_t}
use Rattle.glyph_lists.specs.Clusters.{zero_glyph}
use Rattle.glyph_lists.specs.Deletion.{merge_or_mark}

-- both sides, the first n glyphs of the input merged, or marked
abbrev pub front_merged : Bool → ℕ → List hb_glyph_info_t → List hb_glyph_info_t → List hb_glyph_info_t
front_merged any_order n out input = merge_or_mark any_order (out ++ input) (length out) (length out + n) 0

-- The merge of the first n glyphs of the input leaves the current glyph as g. What was put out stays as it is, and so
-- does what stands behind these n. Nothing is marked.
pub record LeavesHead (any_order : Bool) (n : ℕ) (out input : List hb_glyph_info_t) (g : hb_glyph_info_t) : Type 0 where
  pub before : take (length out) (front_merged any_order n out input) ≡ out
  pub head : slice_index_or (drop (length out) (front_merged any_order n out input)) 0 zero_glyph ≡ g
  pub behind : drop n (drop (length out) (front_merged any_order n out input)) ≡ drop n input
  pub unmarked : any_order ≡ true → n < 2
