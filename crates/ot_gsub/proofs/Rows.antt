-- Worked rows: ligatures of HarfBuzz's own account, in a comment in `ligate_input`, and the records of a rule.
use Rattle.std.proofs.Common.{◌≡◌, ℕ, [], ◌∷◌, ◌++◌, refl, true, pos, map}
use Rattle.rb_glyph.specs.declared.info.hb_glyph_info_t.{hb_glyph_info_t}
use Rattle.glyph_lists.specs.Clusters.{zero_glyph, run_merge, range_least, widened_start, widened_end, run_start, run_end, least, with_cluster, cluster_merge}
use Rattle.font_tables.specs.Bytes.{number_16}
use Rattle.font_tables.specs.Gdef.{has_glyph_classes}
use Rattle.glyph_lists.specs.Deletion.{merge_or_mark}
use Rattle.ot_layout.specs.LigatureParts.{component_count, ligature_component, ligature_id}
use Rattle.shaping_buffer.specs.State.{State, empty_state}
use Rattle.shaping_buffer.specs.Step.{Outcome}
use Rattle.ot_gsub.specs.Ligatures.{ligate, take_in}
use Rattle.ot_gsub.specs.Nested.{records_from}

-- a letter and a mark, in a font without classes
abbrev letter : ℕ → hb_glyph_info_t
letter glyph = record zero_glyph { glyph_id = glyph; var1 = 2 }

abbrev mark : ℕ → hb_glyph_info_t
mark glyph = record zero_glyph { glyph_id = glyph; var1 = 8 }

-- LAM (1) was put out, and LAM, SHADDA (2), FATHA (3), HEH (4) are left
abbrev word : State
word =
    record (empty_state 9 (pos 0)) {
      have_output = true;
      out = letter 1 ∷ [];
      input = letter 1 ∷ mark 2 ∷ mark 3 ∷ letter 4 ∷ [];
      idx = 1;
    }

-- LAM and HEH become a ligature (5), as by `calt`
abbrev lam_heh : Outcome
lam_heh = ligate [] (record { ligature = 5; end = 4; beyond = 0 }) (0 ∷ 3 ∷ []) word

-- then LAM and that ligature become another one (6), as by `liga`
abbrev lam_lam_heh : Outcome
lam_lam_heh =
    let s = lam_heh.state in
    ligate [] (record { ligature = 6; end = 2; beyond = 0 }) (0 ∷ 1 ∷ []) (record s { out = []; input = s.out ++ s.input; idx = 0 })

-- the glyph, the number of its ligature, and the component that it belongs to
abbrev told : hb_glyph_info_t → ℕ × ℕ × ℕ
told g = (g.glyph_id, ligature_id g, ligature_component g)

-- the marks belong to the first component of the first ligature, which has two
marks_of_lam_heh : map told lam_heh.state.out ≡ (1, 0, 0) ∷ (5, 1, 0) ∷ (2, 1, 1) ∷ (3, 1, 1) ∷ []
unfolding take_in run_merge range_least widened_start widened_end run_start run_end least with_cluster cluster_merge merge_or_mark has_glyph_classes number_16
marks_of_lam_heh = refl

-- and to the second of the other one, which has three
marks_of_lam_lam_heh : map told lam_lam_heh.state.input ≡ (2, 2, 2) ∷ (3, 2, 2) ∷ []
unfolding take_in run_merge range_least widened_start widened_end run_start run_end least with_cluster cluster_merge merge_or_mark has_glyph_classes number_16
marks_of_lam_lam_heh = refl

counts : map component_count lam_lam_heh.state.out ≡ 3 ∷ []
unfolding take_in run_merge range_least widened_start widened_end run_start run_end least with_cluster cluster_merge merge_or_mark has_glyph_classes number_16
counts = refl

-- ---- the records of a rule

-- lookup 7 at the first glyph, and 9 at the third; the table is cut short before another one
records : records_from (0 ∷ 0 ∷ 0 ∷ 7 ∷ 0 ∷ 2 ∷ 0 ∷ 9 ∷ 0 ∷ []) 0 3
    ≡ record { sequence_index = 0; lookup = 7 } ∷ record { sequence_index = 2; lookup = 9 } ∷ []
unfolding records_from number_16
records = refl
