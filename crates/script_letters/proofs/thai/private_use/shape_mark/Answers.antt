use Rattle.std.proofs.Common.{ℕ, ap, ◌∙◌}
use Rattle.shaping_buffer.specs.State.{State}
use Rattle.script_letters.specs.Thai.{kept_to_base, shaped_at}
use Rattle.script_letters.proofs.thai.private_use.shape_mark.Goals as goal

pub returns-clause-is : goal.returns-clause-is
returns-clause-is g c =
    let has = g.F.FontGlyphs.has c.args.font.now in
    c.replace_at.ensures.is
    ∙ ap (λ (t : State). record t { input = shaped_at has c.args.action c.place_of-place.result t.input }) c.keep_to_base.ensures.is
    ∙ ap
    (λ (place : ℕ). let t = kept_to_base c.args.base c.args.mark c.args.buffer.now in
    record t { input = shaped_at has c.args.action place t.input })
    c.place_of-place.ensures
