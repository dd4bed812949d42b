-- Merges where no output is open.
use Rattle.std.proofs.Common.{◌≡◌, ◌&&◌, not, ℕ, false, [], sym, ap, ◌∙◌}
use Rattle.glyph_lists.specs.Clusters.{run_merge}
use Rattle.glyph_lists.specs.Parts.{is_short}
use Rattle.glyph_lists.proofs.SidesLemmas.{merge_or_mark_merges}
use Rattle.glyph_sides.specs.TwoLists.{TwoLists}
use Rattle.glyph_sides.proofs.MergingLemmas as sides
use Rattle.shaping_buffer.specs.State.{State}
use Rattle.shaping_buffer.specs.ClusterStep.{any_order, flagged_if, merge_sides, both_place, merge_clusters}

-- the merge of both sides is that of the list
pub input-closed_merge : (a b : ℕ) (s : State) → s.have_output ≡ false → s.out ≡ [] → any_order s ≡ false
    → record s { input = run_merge s.input a b s.idx } ≡ merge_clusters a b s
input-closed_merge a b s closed none level =
    let lists : TwoLists = record {
      is_open = s.have_output;
      is_separate = s.have_separate_output;
      out = s.out;
      input = s.input;
      idx = s.idx;
      room = s.room;
    } in
    ap (λ xs. record s { input = xs }) (sym (merge_or_mark_merges (any_order s) s.input a b s.idx level))
    ∙ ap (λ (t : TwoLists). record s { out = t.out; input = t.input })
    (sides.input-closed_merge (any_order s) a b lists closed none)
    ∙ sym (ap (λ m. record (merge_sides (any_order s) (both_place s a) (both_place s b) s)
    { scratch_flags = flagged_if (m && not (is_short a b)) s }) level)
