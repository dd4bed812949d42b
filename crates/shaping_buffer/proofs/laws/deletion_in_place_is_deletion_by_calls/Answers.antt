use Rattle.std.proofs.Common.{◌+◌, ◌≤◌, ◌∙◌, ◌++◌, refl, ap, length, arith}
use Rattle.glyph_lists.specs.Deletion.{OutAndRest}
use Rattle.shaping_buffer.specs.Step.{clear_output}
use Rattle.shaping_buffer.specs.ClusterStep.{any_order}
use Rattle.shaping_buffer.specs.GroupStep.{walk_by_calls}
use Rattle.shaping_buffer.proofs.WalkLemmas.{walks_agree, sync_is_done}
use Rattle.shaping_buffer.proofs.laws.deletion_in_place_is_deletion_by_calls.Goals as goal

pub returns : goal.returns
returns c = λ test s ok fits.
    let both_fit : 0 + length s.input ≤ s.max_len = omega (arith, fits) in
    let walk = walks_agree test (any_order s) (length s.input) (clear_output s) refl (refl, ok, both_fit) in
    let done = sync_is_done (walk_by_calls test (length s.input) (clear_output s)) walk.1 in
    (done.0, done.1 ∙ ap (λ (s : OutAndRest). s.out ++ s.rest) walk.0, done.2 ∙ walk.2)
