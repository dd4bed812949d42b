use Rattle.std.proofs.Common.{ap, ◌∙◌}
use Rattle.shaping_buffer.specs.State.{State}
use Rattle.script_syllables.specs.Moves.{last_before}
use Rattle.script_universal.specs.Order.{glyphs_before}
use Rattle.script_universal.proofs.OrderLemmas.{glyphs_before-moved_to_start}
use Rattle.script_universal.proofs.khmer.order.move_to_start.Goals as goal

pub returns-clause-before : goal.returns-clause-before
returns-clause-before c =
    let start = c.args.start in
    let end = c.saturating_add-end.result in
    ap (λ (t : State). glyphs_before start t.input) c.move_last.ensures.is
    ∙ ap (λ (t : State). glyphs_before start (last_before start end c.args.count t.input)) c.merge.ensures.is
    ∙ glyphs_before-moved_to_start c.args.buffer.now start end c.args.count
