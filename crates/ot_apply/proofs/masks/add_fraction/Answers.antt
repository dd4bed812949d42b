use Rattle.std.proofs.Common.{◌≡◌, ap, ◌∙◌, arith}
use Rattle.std.proofs.lemmas.Grind.{common_steps}
use Rattle.rb_common.specs.declared.direction.Direction.{Direction}
use Rattle.glyph_lists.specs.Clusters.{clusters}
use Rattle.shaping_buffer.proofs.ClosedKeepsLemmas.{keeps_with_input}
use Rattle.ot_gsub.proofs.BufferLemmas.{with_input_whole}
use Rattle.ot_apply.specs.Masks.{fraction_masked, with_fraction}
use Rattle.ot_apply.proofs.FractionLemmas.{length-fraction_masked, clusters-fraction_masked}
use Rattle.ot_apply.proofs.masks.add_fraction.Goals as goal

pub returns-clause-is : goal.returns-clause-is
unfolding with_fraction
returns-clause-is c =
    let s = c.args.buffer.now in
    let start = c.args.start in
    let slash = c.args.slash in
    let end = c.args.end in
    let way : c.buffer.inside.direction ≡ s.direction = grind (arith, common_steps) in
    with_input_whole s c.add_fraction_masks.new.infos (fraction_masked c.args.plan.now s.direction start slash end s.input)
    (c.add_fraction_masks.ensures
    ∙ ap (fraction_masked c.args.plan.now c.buffer.inside.direction start slash end) c.info_slice_mut.ensures.value
    ∙ ap (λ (d : Direction). fraction_masked c.args.plan.now d start slash end s.input) way)
    (length-fraction_masked c.args.plan.now s.direction start slash end s.input c.requires.before c.requires.behind)

pub returns-clause-keeps : goal.returns-clause-keeps
returns-clause-keeps c =
    let now = c.info_slice_mut.result.now in
    keeps_with_input c.args.buffer.now c.add_fraction_masks.new.infos now c.info_slice_mut.ensures.value
    (ap clusters c.add_fraction_masks.ensures
    ∙ clusters-fraction_masked c.args.plan.now c.buffer.inside.direction c.args.start c.args.slash c.args.end now
    c.requires.before c.requires.behind)
