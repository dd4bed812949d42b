-- Worked examples of groups, syllables and deletion in place.
use Rattle.std.proofs.Common.{◌≡◌, ℕ, List, [], ◌∷◌, refl, pos, true, false}
use Rattle.std.specs.Prelude.{◌+◌, ◌==◌, ℤ, Some}
use Rattle.rb_glyph.specs.declared.info.hb_glyph_info_t.{hb_glyph_info_t}
use Rattle.rb_glyph.specs.declared.position.GlyphPosition.{GlyphPosition}
use Rattle.glyph_lists.specs.Clusters.{zero_glyph, least, with_cluster, run_start, run_end, range_least, widened_start}
use Rattle.glyph_lists.specs.Clusters.{widened_end, run_merge}
use Rattle.glyph_lists.specs.Deletion.{merge_or_mark, deletion, is_not_empty, begins_with, last_cluster, lowers_run}
use Rattle.glyph_lists.specs.Deletion.{merges_next, with_trailing_run}
use Rattle.glyph_lists.specs.Groups.{Test, share_cluster, share_syllable, group_end}
use Rattle.shaping_buffer.specs.State.{State, empty_state}
use Rattle.shaping_buffer.specs.Positions.{zero_position}
use Rattle.shaping_buffer.specs.GroupStep.{reverse_groups, delete_glyphs_inplace}

-- the glyph with this id in this cluster
abbrev letter : ℕ → ℕ → hb_glyph_info_t
letter id c = record zero_glyph { glyph_id = id; cluster = c }

-- glyphs with ids from `id` on in these clusters
abbrev letters : ℕ → List ℕ → List hb_glyph_info_t
letters id [] = []
letters id (c ∷ cs) = letter id c ∷ letters (1 + id) cs

-- a buffer with letters from a on in these clusters
abbrev text : List ℕ → State
text cs = record (empty_state 9 (pos 0)) { input = letters 97 cs }

-- the glyph after the cut is the letter b
abbrev goes_on_at_b : Test
goes_on_at_b x y = y.glyph_id == 98

abbrev advance : ℤ → GlyphPosition
advance x = record zero_position { x_advance = x }

-- the same with advances of 10, 20 and 30
abbrev placed_text : List ℕ → State
placed_text cs = record (text cs) { positions = Some (advance (pos 10) ∷ advance (pos 20) ∷ advance (pos 30) ∷ []) }

-- ---- groups

groups_of_clusters : (reverse_groups share_cluster false (text (0 ∷ 0 ∷ 1 ∷ 2 ∷ 2 ∷ []))).input
    ≡ (letter 100 2 ∷ letter 101 2 ∷ letter 99 1 ∷ letter 97 0 ∷ letter 98 0 ∷ [])
groups_of_clusters = refl

merged_groups_of_letters : (reverse_groups goes_on_at_b true (text (0 ∷ 1 ∷ 2 ∷ []))).input
    ≡ (letter 99 2 ∷ letter 97 0 ∷ letter 98 0 ∷ [])
unfolding merge_or_mark run_merge range_least widened_start widened_end run_start run_end least with_cluster
merged_groups_of_letters = refl

a_merged_group_is_widened : (reverse_groups goes_on_at_b true (text (0 ∷ 1 ∷ 1 ∷ []))).input
    ≡ (letter 99 0 ∷ letter 97 0 ∷ letter 98 0 ∷ [])
unfolding merge_or_mark run_merge range_least widened_start widened_end run_start run_end least with_cluster
a_merged_group_is_widened = refl

last_group_ends_with_the_list : group_end share_cluster 2 (letters 97 (0 ∷ 1 ∷ 2 ∷ [])) ≡ 3
last_group_ends_with_the_list = refl

last_syllable_ends_with_the_list : group_end share_syllable 2 (letters 97 (0 ∷ 1 ∷ 2 ∷ [])) ≡ 3
last_syllable_ends_with_the_list = refl

no_syllable_past_the_end : group_end share_syllable 5 (letters 97 (0 ∷ 1 ∷ 2 ∷ [])) ≡ 5
no_syllable_past_the_end = refl

-- ---- deletion in place

next_glyph_takes_the_cluster :
    delete_glyphs_inplace (λ g. g.glyph_id == 97) (placed_text (0 ∷ 1 ∷ 2 ∷ []))
    ≡ record (text []) {
      input = letter 98 0 ∷ letter 99 2 ∷ [];
      positions = Some (advance (pos 20) ∷ advance (pos 30) ∷ []);
    }
unfolding deletion lowers_run merges_next begins_with last_cluster is_not_empty merge_or_mark run_merge range_least
    widened_start widened_end run_start run_end least with_cluster
next_glyph_takes_the_cluster = refl

last_glyph_takes_the_cluster :
    delete_glyphs_inplace (λ g. g.glyph_id == 98) (placed_text (2 ∷ 1 ∷ 0 ∷ []))
    ≡ record (text []) {
      input = letter 97 1 ∷ letter 99 0 ∷ [];
      positions = Some (advance (pos 10) ∷ advance (pos 30) ∷ []);
    }
unfolding deletion lowers_run merges_next begins_with last_cluster is_not_empty with_trailing_run run_start with_cluster
last_glyph_takes_the_cluster = refl
