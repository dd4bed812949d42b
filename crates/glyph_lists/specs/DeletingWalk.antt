-- The deleting walk over a list: from its start on, a glyph for which a test holds as it then stands is deleted, and
-- any other is put out.
use Rattle.std.proofs.Common.{zero, suc}
use Rattle.std.specs.Prelude.{ℕ, ◌&&◌, ◌||◌, ◌++◌, Bool, false, List, [], ◌∷◌, length, take, drop, slice_index_or}
use Rattle.std.specs.Prelude.{if◌then◌else◌}
use Rattle.rb_glyph.specs.declared.info.hb_glyph_info_t.{hb_glyph_info_t}
use Rattle.glyph_lists.specs.Clusters.{zero_glyph}
use Rattle.glyph_lists.specs.Deletion.{OutAndRest, deletion, merges_next}

-- the first k glyphs of a list, and what stands from place i on
abbrev pub sides_at : ℕ → ℕ → List hb_glyph_info_t → OutAndRest
sides_at k i l = record { out = take k l; rest = drop i l }

-- the current glyph
abbrev pub head_of : OutAndRest → hb_glyph_info_t
head_of s = slice_index_or s.rest 0 zero_glyph

-- the current glyph is put out
abbrev pub after_next : OutAndRest → OutAndRest
after_next s = record { out = s.out ++ take 1 s.rest; rest = drop 1 s.rest }

-- the current glyph goes by the rule of deletion
abbrev pub after_deletion : Bool → OutAndRest → OutAndRest
after_deletion any_order s = deletion any_order s.out (head_of s) (drop 1 s.rest)

-- one turn of the walk
abbrev pub after_turn : Bool → (hb_glyph_info_t → Bool) → OutAndRest → OutAndRest
after_turn any_order test s = if test (head_of s) then after_deletion any_order s else after_next s

-- that many turns of it
abbrev pub after_walk : Bool → (hb_glyph_info_t → Bool) → ℕ → OutAndRest → OutAndRest
after_walk any_order test zero s = s
after_walk any_order test (suc turns) s = after_walk any_order test turns (after_turn any_order test s)

-- what the walk over a whole list leaves
abbrev pub left_by_walk : Bool → (hb_glyph_info_t → Bool) → List hb_glyph_info_t → List hb_glyph_info_t
left_by_walk any_order test l =
    let s = after_walk any_order test (length l) (record { out = []; rest = l }) in
    s.out ++ s.rest

-- of the items beside what is left, those beside the glyphs that the walk keeps
abbrev pub kept_beside : {X : Type 0} → Bool → (hb_glyph_info_t → Bool) → OutAndRest → List X → List X
kept_beside any_order test s [] = []
kept_beside any_order test s (p ∷ ps) =
    let kept = kept_beside any_order test (after_turn any_order test s) ps in
    if test (head_of s) then kept else p ∷ kept

-- the current glyph, were it deleted, would be merged with the glyph after it
abbrev pub deletion_merges : OutAndRest → Bool
deletion_merges s = merges_next s.out (head_of s) (drop 1 s.rest)

-- whether in that many turns a deleted glyph is merged with the one after it
abbrev pub walk_merges : Bool → (hb_glyph_info_t → Bool) → ℕ → OutAndRest → Bool
walk_merges any_order test zero s = false
walk_merges any_order test (suc turns) s =
    (test (head_of s) && deletion_merges s) || walk_merges any_order test turns (after_turn any_order test s)
