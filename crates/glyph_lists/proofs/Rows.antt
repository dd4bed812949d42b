-- Worked examples of the definitions on clusters and masks.
use Rattle.std.proofs.Common.{◌≡◌, ℕ, List, [], ◌∷◌, refl, map, true, false}
use Rattle.rb_glyph.specs.declared.info.hb_glyph_info_t.{hb_glyph_info_t}
use Rattle.glyph_lists.specs.Clusters.{zero_glyph, least, with_cluster, cluster_merge, run_start, run_end, range_least}
use Rattle.glyph_lists.specs.Clusters.{widened_start, widened_end, run_merge}
use Rattle.glyph_lists.specs.Marks.{with_glyph_flags, mark, mark_part, ends, end_mark, ends_least}
use Rattle.glyph_lists.specs.Deletion.{merge_or_mark, deletion, is_not_empty, begins_with, last_cluster, lowers_run}
use Rattle.glyph_lists.specs.Deletion.{merges_next, with_trailing_run}
use Rattle.glyph_lists.specs.Replacement.{replacement}
use Rattle.glyph_lists.specs.Masks.{with_mask, reset_masks, with_bits, set_masks}

-- a glyph of this cluster with this mask
abbrev glyph : ℕ → ℕ → hb_glyph_info_t
glyph c m = record zero_glyph { cluster = c; mask = m }

-- glyphs of these clusters, with no flags
abbrev plain : List ℕ → List hb_glyph_info_t
plain cs = map (λ c. glyph c 0) cs

-- ---- run merges

start_is_widened : run_merge (plain (3 ∷ 3 ∷ 2 ∷ 1 ∷ [])) 1 3 0 ≡ plain (2 ∷ 2 ∷ 2 ∷ 1 ∷ [])
unfolding run_merge range_least widened_start widened_end run_start run_end least with_cluster
start_is_widened = refl

start_is_widened_to_the_floor : run_merge (plain (3 ∷ 3 ∷ 2 ∷ 1 ∷ [])) 1 3 1 ≡ plain (3 ∷ 2 ∷ 2 ∷ 1 ∷ [])
unfolding run_merge range_least widened_start widened_end run_start run_end least with_cluster
start_is_widened_to_the_floor = refl

start_is_widened_past_the_cursor : run_merge (plain (3 ∷ 2 ∷ 2 ∷ 1 ∷ [])) 2 4 0 ≡ plain (3 ∷ 1 ∷ 1 ∷ 1 ∷ [])
unfolding run_merge range_least widened_start widened_end run_start run_end least with_cluster
start_is_widened_past_the_cursor = refl

end_is_widened_past_the_cursor : run_merge (plain (0 ∷ 1 ∷ 1 ∷ 2 ∷ [])) 0 2 0 ≡ plain (0 ∷ 0 ∷ 0 ∷ 2 ∷ [])
unfolding run_merge range_least widened_start widened_end run_start run_end least with_cluster
end_is_widened_past_the_cursor = refl

range_of_falling_clusters : run_merge (plain (4 ∷ 3 ∷ 3 ∷ 1 ∷ [])) 1 4 0 ≡ plain (4 ∷ 1 ∷ 1 ∷ 1 ∷ [])
unfolding run_merge range_least widened_start widened_end run_start run_end least with_cluster
range_of_falling_clusters = refl

least_end_is_not_widened : run_merge (plain (4 ∷ 3 ∷ 3 ∷ 1 ∷ [])) 0 2 0 ≡ plain (3 ∷ 3 ∷ 3 ∷ 1 ∷ [])
unfolding run_merge range_least widened_start widened_end run_start run_end least with_cluster
least_end_is_not_widened = refl

another_run_of_the_number_stays : run_merge (plain (1 ∷ 0 ∷ 1 ∷ [])) 0 2 0 ≡ plain (0 ∷ 0 ∷ 1 ∷ [])
unfolding run_merge range_least widened_start widened_end run_start run_end least with_cluster
another_run_of_the_number_stays = refl

flags_stay_where_the_cluster_stays : run_merge (glyph 0 0 ∷ glyph 1 3 ∷ glyph 2 3 ∷ []) 1 3 0
    ≡ (glyph 0 0 ∷ glyph 1 3 ∷ glyph 1 0 ∷ [])
unfolding run_merge range_least widened_start widened_end run_start run_end least with_cluster
flags_stay_where_the_cluster_stays = refl

-- ---- cluster merges

merge_of_the_range : cluster_merge (plain (3 ∷ 3 ∷ 2 ∷ 1 ∷ [])) (plain (3 ∷ 2 ∷ [])) ≡ plain (2 ∷ 2 ∷ 2 ∷ 1 ∷ [])
unfolding cluster_merge least with_cluster
merge_of_the_range = refl

merge_reaches_each_equal_number : cluster_merge (plain (1 ∷ 0 ∷ 1 ∷ [])) (plain (1 ∷ 0 ∷ [])) ≡ plain (0 ∷ 0 ∷ 0 ∷ [])
unfolding cluster_merge least with_cluster
merge_reaches_each_equal_number = refl

-- ---- deletion

next_glyph_takes_a_lower_cluster : deletion false [] (glyph 0 0) (plain (1 ∷ 2 ∷ []))
    ≡ record { out = []; rest = plain (0 ∷ 2 ∷ []) }
unfolding deletion lowers_run merges_next begins_with last_cluster is_not_empty merge_or_mark run_merge range_least
    widened_start widened_end run_start run_end least with_cluster
next_glyph_takes_a_lower_cluster = refl

last_glyph_takes_cluster_and_flags : deletion false (glyph 5 0 ∷ []) (glyph 3 1) (plain (2 ∷ []))
    ≡ record { out = glyph 3 1 ∷ []; rest = plain (2 ∷ []) }
unfolding deletion lowers_run merges_next begins_with last_cluster is_not_empty with_trailing_run run_start with_cluster
last_glyph_takes_cluster_and_flags = refl

trailing_run_takes_the_cluster : deletion false (plain (3 ∷ 3 ∷ [])) (glyph 2 0) (plain (1 ∷ []))
    ≡ record { out = plain (2 ∷ 2 ∷ []); rest = plain (1 ∷ []) }
unfolding deletion lowers_run merges_next begins_with last_cluster is_not_empty with_trailing_run run_start with_cluster
trailing_run_takes_the_cluster = refl

higher_cluster_is_lost : deletion false (plain (0 ∷ [])) (glyph 5 0) (plain (1 ∷ []))
    ≡ record { out = plain (0 ∷ []); rest = plain (1 ∷ []) }
unfolding deletion lowers_run merges_next begins_with last_cluster is_not_empty
higher_cluster_is_lost = refl

-- ---- replacement

copies_take_the_cluster : replacement false
    (record zero_glyph { glyph_id = 65 } ∷ record zero_glyph { glyph_id = 66; cluster = 1 } ∷ []) 0 1 (1 ∷ 2 ∷ 3 ∷ [])
    ≡ (record zero_glyph { glyph_id = 1 } ∷ record zero_glyph { glyph_id = 2 } ∷ record zero_glyph { glyph_id = 3 }
    ∷ record zero_glyph { glyph_id = 66; cluster = 1 } ∷ [])
unfolding replacement merge_or_mark run_merge range_least widened_start widened_end run_start run_end least with_cluster
copies_take_the_cluster = refl

-- ---- merges that mark

merge_marks : merge_or_mark true (plain (0 ∷ 1 ∷ 2 ∷ [])) 0 2 0 ≡ (glyph 0 0 ∷ glyph 1 3 ∷ glyph 2 0 ∷ [])
unfolding merge_or_mark mark with_glyph_flags least
merge_marks = refl

deletion_by_a_merge_that_marks : deletion true [] (glyph 0 0) (plain (1 ∷ []))
    ≡ record { out = []; rest = glyph 1 3 ∷ [] }
unfolding deletion lowers_run merges_next begins_with last_cluster is_not_empty merge_or_mark mark with_glyph_flags
    least
deletion_by_a_merge_that_marks = refl

-- ---- marks

marks_past_the_least_cluster : end_mark 3 (plain (1 ∷ 1 ∷ 2 ∷ 3 ∷ []))
    ≡ (glyph 1 0 ∷ glyph 1 0 ∷ glyph 2 3 ∷ glyph 3 3 ∷ [])
unfolding end_mark mark_part with_glyph_flags ends least
marks_past_the_least_cluster = refl

marks_past_the_last_of_the_least : end_mark 3 (plain (1 ∷ 3 ∷ 1 ∷ 2 ∷ []))
    ≡ (glyph 1 0 ∷ glyph 3 0 ∷ glyph 1 0 ∷ glyph 2 3 ∷ [])
unfolding end_mark mark_part with_glyph_flags ends least
marks_past_the_last_of_the_least = refl

marks_before_the_least_cluster : end_mark 3 (plain (4 ∷ 3 ∷ 3 ∷ 1 ∷ []))
    ≡ (glyph 4 3 ∷ glyph 3 3 ∷ glyph 3 3 ∷ glyph 1 0 ∷ [])
unfolding end_mark mark_part with_glyph_flags ends least
marks_before_the_least_cluster = refl

marks_safe_for_tatweel : end_mark 4 (plain (0 ∷ 1 ∷ 2 ∷ [])) ≡ (glyph 0 0 ∷ glyph 1 4 ∷ glyph 2 4 ∷ [])
unfolding end_mark mark_part with_glyph_flags ends least
marks_safe_for_tatweel = refl

marks_all_outside_the_least_cluster : mark 3 (plain (2 ∷ 1 ∷ 3 ∷ 1 ∷ []))
    ≡ (glyph 2 3 ∷ glyph 1 0 ∷ glyph 3 3 ∷ glyph 1 0 ∷ [])
unfolding mark with_glyph_flags least
marks_all_outside_the_least_cluster = refl

marks_of_the_out_side : mark_part 3 (ends_least (plain (0 ∷ 1 ∷ [])) (plain (1 ∷ 2 ∷ []))) (plain (0 ∷ 1 ∷ []))
    ≡ (glyph 0 0 ∷ glyph 1 3 ∷ [])
unfolding ends_least mark_part with_glyph_flags ends least
marks_of_the_out_side = refl

marks_of_the_input : mark_part 3 (ends_least (plain (0 ∷ 1 ∷ [])) (plain (1 ∷ 2 ∷ []))) (plain (1 ∷ 2 ∷ []))
    ≡ (glyph 1 3 ∷ glyph 2 3 ∷ [])
unfolding ends_least mark_part with_glyph_flags ends least
marks_of_the_input = refl

marks_each_glyph : map (with_glyph_flags 2) (plain (0 ∷ 1 ∷ 2 ∷ [])) ≡ (glyph 0 2 ∷ glyph 1 2 ∷ glyph 2 2 ∷ [])
unfolding with_glyph_flags
marks_each_glyph = refl

-- ---- masks

whole_range_holds_the_largest_cluster : set_masks 8 8 0 4294967295 (plain (4294967295 ∷ [])) ≡ (glyph 4294967295 8 ∷ [])
unfolding set_masks with_bits
whole_range_holds_the_largest_cluster = refl

end_of_a_range_is_outside : set_masks 8 8 1 4294967295 (plain (4294967295 ∷ [])) ≡ (glyph 4294967295 0 ∷ [])
unfolding set_masks with_bits
end_of_a_range_is_outside = refl

other_bits_stay : set_masks 1 3 0 1 (glyph 0 6 ∷ glyph 1 6 ∷ []) ≡ (glyph 0 5 ∷ glyph 1 6 ∷ [])
unfolding set_masks with_bits
other_bits_stay = refl

every_mask_is_reset : reset_masks 9 (glyph 0 6 ∷ glyph 1 3 ∷ []) ≡ (glyph 0 9 ∷ glyph 1 9 ∷ [])
unfolding reset_masks with_mask
every_mask_is_reset = refl
