-- Merges and deletion keep lengths.
use Rattle.std.proofs.Common.{◌≡◌, ℕ, ◌-◌, ◌≤◌, List, ◌∷◌, ◌++◌, length, take, drop, refl, arith, eqb, ltb, Bool, true}
use Rattle.std.proofs.Common.{false, if◌then◌else◌, length-drop}
use Rattle.std.proofs.lemmas.Bool.{cond_both, ltb-false}
use Rattle.std.proofs.lemmas.List.{length-map}
use Rattle.rb_glyph.specs.declared.info.hb_glyph_info_t.{hb_glyph_info_t}
use Rattle.glyph_lists.specs.Parts.{part}
use Rattle.glyph_lists.specs.Clusters.{clusters, least, with_cluster, run_start}
use Rattle.glyph_lists.specs.Marks.{mark, with_glyph_flags}
use Rattle.glyph_lists.specs.Deletion.{OutAndRest, deletion, merge_or_mark, with_trailing_run, last_cluster, lowers_run}
use Rattle.glyph_lists.specs.Deletion.{merges_next}
use Rattle.glyph_lists.specs.Replacement.{copies}
use Rattle.glyph_lists.specs.declared.glyph_flags.TheConstants.{BREAK_BITS}
use Rattle.glyph_lists.proofs.PartsLemmas.{length-map_range}
use Rattle.glyph_lists.proofs.RunsLemmas.{run_start-le}
use Rattle.glyph_lists.proofs.MergesLemmas.{length-run_merge}

length-mark_in : (bits : ℕ) (l : List hb_glyph_info_t) (p q : ℕ) → p ≤ q
    → length (take p l ++ mark bits (part l p q) ++ drop q l) ≡ length l
unfolding mark
length-mark_in bits l p q up =
    let m = least (clusters (part l p q)) in
    length-map_range (λ g. if eqb g.cluster m then g else with_glyph_flags bits g) l p q up

-- a merge keeps the length
pub length-merge_or_mark : (any_order : Bool) (l : List hb_glyph_info_t) (p q floor : ℕ)
    → length (merge_or_mark any_order l p q floor) ≡ length l
unfolding merge_or_mark
length-merge_or_mark true l p q floor =
    cond_both (ltb (q - p) 2) _ _ (λ (r : List hb_glyph_info_t). length r ≡ length l) (λ _. refl)
    (λ two. let far = ltb-false _ _ two in length-mark_in BREAK_BITS l p q (omega arith))
length-merge_or_mark false l p q floor = length-run_merge l p q floor

-- a deletion keeps the length of each side
pub length-deletion : (any_order : Bool) (out : List hb_glyph_info_t) (x : hb_glyph_info_t)
    (rest : List hb_glyph_info_t)
    → (length (deletion any_order out x rest).out ≡ length out)
    × (length (deletion any_order out x rest).rest ≡ length rest)
unfolding deletion with_trailing_run
length-deletion any_order out x rest =
    let Q : OutAndRest → Type 0 = λ d. (length d.out ≡ length out) × (length d.rest ≡ length rest) in
    cond_both (lowers_run out x rest) _ _ Q
    (λ _. (
      length-map_range (with_cluster x.cluster x.mask) out
          (run_start (clusters out) (last_cluster out) 0 (length out)) (length out)
          (run_start-le (clusters out) (last_cluster out) 0 (length out)),
      refl,
    ))
    (λ _. cond_both (merges_next out x rest) _ _ Q
    (λ _. (
      refl,
      omega (
        arith,
        length-drop 1 (merge_or_mark any_order (x ∷ rest) 0 2 0),
        length-merge_or_mark any_order (x ∷ rest) 0 2 0,
      ),
    )) (λ _. (refl, refl)))

-- there are as many copies as ids
pub length_copies : (g : hb_glyph_info_t) (ids : List ℕ) → length (copies g ids) ≡ length ids
length_copies g ids = length-map ids (λ id. record g { glyph_id = id })
