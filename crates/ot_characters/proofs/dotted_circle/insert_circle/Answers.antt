use Rattle.std.proofs.Common.{◌≡◌, List, slice_index_or, ap, ◌∙◌}
use Rattle.rb_glyph.specs.declared.info.hb_glyph_info_t.{hb_glyph_info_t}
use Rattle.glyph_lists.specs.Clusters.{zero_glyph}
use Rattle.shaping_buffer.specs.State.{State}
use Rattle.shaping_buffer.specs.ClusterStep.{head_of}
use Rattle.shaping_buffer.specs.Step.{output_info}
use Rattle.ot_characters.specs.Circle.{circle_before}
use Rattle.ot_characters.proofs.CircleLemmas.{has_circle}
use Rattle.ot_characters.proofs.dotted_circle.insert_circle.Goals as goal

pub returns-clause-inserts : goal.returns-clause-inserts
returns-clause-inserts c =
    let s = c.args.buffer.now in
    let circle = c.circle_before-circle.result in
    let is : circle ≡ circle_before (head_of s) =
    c.circle_before-circle.ensures.is
    ∙ ap (λ (l : List hb_glyph_info_t). circle_before (slice_index_or l 0 zero_glyph)) c.info.ensures in
    has_circle s c.put_circle.new.buffer c.sync.new.self circle c.sync.result is
    (c.in_ok-put_circle.ensures.meets.1 ∙ ap (λ (t : State). (output_info circle t).state) c.clear_output.ensures.is)
    c.sync.ensures.meets
