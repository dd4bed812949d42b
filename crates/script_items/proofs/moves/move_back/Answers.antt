use Rattle.std.proofs.Common.{length, ap, ◌∙◌}
use Rattle.shaping_buffer.specs.State.{State}
use Rattle.script_items.proofs.MoveLemmas.{keeps_moved_input, length-moved, with_input-moved}
use Rattle.script_items.proofs.moves.move_back.Goals as goal

pub returns-clause-is : goal.returns-clause-is
returns-clause-is c =
    with_input-moved c.args.start c.args.middle c.args.end c.args.buffer.now c.move_items.new.infos
    c.info_slice_mut.result.now c.requires.order c.requires.ends c.requires.within c.info_slice_mut.ensures.value
    c.move_items.ensures

pub returns-clause-length : goal.returns-clause-length
returns-clause-length c =
    ap (λ (t : State). length t.input)
    (with_input-moved c.args.start c.args.middle c.args.end c.args.buffer.now c.move_items.new.infos
    c.info_slice_mut.result.now c.requires.order c.requires.ends c.requires.within c.info_slice_mut.ensures.value
    c.move_items.ensures)
    ∙ length-moved c.args.start c.args.middle c.args.end c.args.buffer.now.input c.requires.order c.requires.ends c.requires.within

pub returns-clause-keeps : goal.returns-clause-keeps
returns-clause-keeps c =
    keeps_moved_input c.args.start c.args.middle c.args.end c.args.buffer.now c.move_items.new.infos
    c.info_slice_mut.result.now c.requires.order c.requires.ends c.requires.within c.info_slice_mut.ensures.value
    c.move_items.ensures c.requires.one
